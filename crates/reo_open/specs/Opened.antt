-- The open circuit of a circuit.
use Rattle.std.specs.Prelude.{ℕ, ◌<◌, ◌≡◌, Bool, true, false, Option, Some, None, List, length, map, slice_index_or}
use Rattle.reo_values.specs.declared.value.Value.{Value}
use Rattle.reo_values.specs.declared.value.Value.TheVariants as values
use Rattle.reo_net_base.specs.Net.{Net, Wiring, net_of}
use Rattle.reo_buffers.specs.Stored.{Stored}
use Rattle.reo_kinds.specs.declared.kind.Kind.{Kind}
use Rattle.reo_kinds.specs.declared.kind.Kind.TheVariants.{Writer, Taker, Sync, Store, Shift, Variable, Filter, Map}
use Rattle.reo_open.specs.declared.gate.GateRows.TheVariants.{All}
use Rattle.reo_open.specs.declared.opens.Open.{Open}
use Rattle.reo_open.specs.declared.opens.Open.TheVariants.{Border, Inner}
use Rattle.reo_open.specs.Opens.{open_behaviour}

-- Unit in place of each item.
abbrev pub units : List Value → List Value
units items = map (λ _. values.Unit) items

abbrev pub unit_held : Option Value → Option Value
unit_held None = None
unit_held (Some item) = Some values.Unit

abbrev pub unit_stored : Stored → Stored
unit_stored b = record b { items = units b.items }

-- What stands in the open circuit in place of a kind: a gate with all rows for a port, a sync for a map, unit for each
-- item.
abbrev pub opened : Kind → Open
opened (Writer port) = Border (record { takes = false; allowed = All })
opened (Taker port) = Border (record { takes = true; allowed = All })
opened (Map rule) = Inner Sync
opened (Store buffer) = Inner (Store (unit_stored buffer))
opened (Shift buffer) = Inner (Shift (unit_stored buffer))
opened (Variable held) = Inner (Variable (unit_held held))
opened kind = Inner kind

abbrev pub is_filter : Kind → Bool
is_filter (Filter rule) = true
is_filter _ = false

-- What depends on items has no open circuit: no kind is a filter.
abbrev pub HasNoFilter : List Kind → Type 0
HasNoFilter kinds = (i : ℕ) (d : Kind) → i < length kinds → is_filter (slice_index_or kinds i d) ≡ false

abbrev pub open_wiring : Wiring Kind → Wiring Open
open_wiring w = record { primitives = map opened w.primitives; ports = w.ports; joints = w.joints }

abbrev pub open_net : Wiring Kind → Net
open_net w = net_of open_behaviour (open_wiring w)
