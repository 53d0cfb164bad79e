-- The best list of numbers so far.
use Rattle.std.specs.Prelude.{ℕ, ◌≡◌, ◌≢◌, ◌⊎◌, List, Option, Some, None}
use Rattle.std.specs.declared.cmp.Ordering.TheVariants.{Less}
use Rattle.std.specs.Ordering.{nat_cmp}
use Rattle.std.specs.Cmp.Lexicographic.{slice_cmp}
use Rattle.reo_net_base.specs.Net.{Net}
use Rattle.reo_joint_values.specs.Values.{Choice}
use Rattle.reo_walk.specs.declared.place.KeyPlace.{KeyPlace}
use Rattle.reo_walk.specs.Places.{numbers}
use Rattle.reo_search.specs.choices.Trying.{IsLeastOf}

-- A list stands before the best so far, if there is one.
abbrev pub IsBefore : List ℕ → Option (List ℕ) → Type 0
IsBefore found None = Unit {0}
IsBefore found (Some best) = slice_cmp nat_cmp found best ≡ Less

-- The best so far is a list that stands before it, and else what it was.
abbrev pub IsKept : Option (List ℕ) → List ℕ → Option (List ℕ) → Type 0
IsKept old found new = ((new ≡ Some found) × IsBefore found old) ⊎ ((new ≡ old) × (IsBefore found old → ⊥))

-- Of some assignments none stands before the best so far. Where there is no best so far, there is none of them.
abbrev pub NoneBefore : ((ℕ → ℕ) → Choice → Type 0) → Net → ℕ → List KeyPlace → Option (List ℕ) → Type 0
NoneBefore Of net turn places None = (rows : ℕ → ℕ) (choice : Choice) → Of rows choice → ⊥
NoneBefore Of net turn places (Some best) = (rows : ℕ → ℕ) (choice : Choice) → Of rows choice → slice_cmp nat_cmp (numbers net turn places rows) best ≢ Less

-- The best so far has come to the first of some assignments, where that stands before it.
abbrev pub IsBetter : ((ℕ → ℕ) → Choice → Type 0) → Net → ℕ → List KeyPlace → Option (List ℕ) → Option (List ℕ) → Type 0
IsBetter Of net turn places old new = ((new ≡ old) × NoneBefore Of net turn places old)
    ⊎ ((found : List ℕ) × (new ≡ Some found) × IsLeastOf Of net turn places found × IsBefore found old)
