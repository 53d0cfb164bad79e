-- Jam at every side.
use Rattle.std.specs.Prelude.{ℕ, ◌-◌, List, Option, None, map}
use Rattle.reo_values.specs.declared.value.Value.{Value}
use Rattle.reo_net_base.specs.Net.{Net, all_sides, row_count}
use Rattle.reo_net_base.specs.Colouring.{IsColouring}
use Rattle.reo_net_base.specs.Wired.{IsWired}

-- The jam row of each side.
abbrev pub jam_rows : Net → List ℕ
jam_rows net = map (λ s. row_count s - 1) (all_sides net.primitives)

-- No item at any joint.
abbrev pub no_items : Net → List (Option Value)
no_items net = map (λ _. None) net.joints

-- Jam at every side, with no item, is a colouring.
abbrev pub JamIsColouring : Type 0
JamIsColouring = (net : Net) → IsWired net → IsColouring net (jam_rows net) (no_items net)
