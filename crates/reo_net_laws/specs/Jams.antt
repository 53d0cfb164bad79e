-- Where rows jam.
use Rattle.std.specs.Prelude.{ℕ, ◌+◌, ◌<◌, ◌≡◌, ◌==◌, Bool, true, false, List, Option, slice_index, slice_index_or}
use Rattle.reo_values.specs.declared.value.Value.{Value}
use Rattle.reo_net_base.specs.Sides.{side_count}
use Rattle.reo_net_base.specs.Net.{Net, all_sides, no_side, row_count}
use Rattle.reo_net_base.specs.Colouring.{IsColouring}
use Rattle.reo_net_base.specs.Wired.{IsWired}
use Rattle.reo_net_laws.specs.Parts.{SameKnot, IsAssignment}

-- Whether a side has its jam row.
abbrev pub jams : Net → List ℕ → ℕ → Bool
jams net rows k = slice_index rows k + 1 == row_count (slice_index_or (all_sides net.primitives) k no_side)

-- An assignment of a set that jams none of its sides.
pub record IsThreeColouring (net : Net) (inside : ℕ → Bool) (rows : List ℕ) (items : List (Option Value)) : Type 0 where
  pub assignment : IsAssignment net inside rows items
  pub no_jam : (k : ℕ) → k < side_count net → inside k ≡ true → jams net rows k ≡ false

-- A colouring jams a knot as a whole.
abbrev pub JamsWhole : Type 0
JamsWhole = (net : Net) → IsWired net → (rows : List ℕ) (items : List (Option Value))
    → IsColouring net rows items
    → (s t : ℕ) → SameKnot net s t → jams net rows s ≡ jams net rows t
