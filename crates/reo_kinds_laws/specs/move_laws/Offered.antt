-- What moves at ports.
use Rattle.std.specs.Prelude.{ℕ, ◌≡◌, Option, Some, List, slice_get}
use Rattle.reo_values.specs.declared.value.Value.{Value}
use Rattle.reo_net_base.specs.declared.port.Way.TheVariants.{In, Out}
use Rattle.reo_net_base.specs.declared.port.Offer.TheVariants.{Write, Take}
use Rattle.reo_net_base.specs.Net.{Net, Wiring, net_of}
use Rattle.reo_net_base.specs.Colouring.{IsColouring}
use Rattle.reo_net_base.specs.Wired.{IsWired}
use Rattle.reo_net_base.specs.Moves.{moves_of}
use Rattle.reo_kinds.specs.declared.kind.Kind.{Kind}
use Rattle.reo_kinds.specs.Kinds.{behaviour_of, port_state_of}
use Rattle.reo_kinds_laws.specs.move_laws.Moved.{Moves}

-- A circuit of kinds, as mathematics.
abbrev pub net_in : Wiring Kind → Net
net_in w = net_of behaviour_of w

-- By its way, what is pending at the port at which the item moves.
pub record IsOfOffer (kind : Kind) (item : Value) : Type 0 where
  pub goes_in : (port_state_of kind).way ≡ Some In → (port_state_of kind).pending ≡ Some (Write item)
  pub goes_out : (port_state_of kind).way ≡ Some Out → (port_state_of kind).pending ≡ Some Take

abbrev pub MovesAreOffers : Type 0
MovesAreOffers = (w : Wiring Kind) (rows : List ℕ) (items : List (Option Value)) → IsWired (net_in w) → IsColouring (net_in w) rows items
    → (port : ℕ) (item : Value) (kind : Kind) → slice_get w.primitives port ≡ Some kind
    → Moves (moves_of (net_in w) w.ports rows items) port item → IsOfOffer kind item
