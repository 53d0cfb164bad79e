-- Bounds of sets that are given as lists.
use Rattle.std.specs.Prelude.{ℕ, ◌+◌, ◌<◌, ◌^◌, ◌≡◌, true, List, [], length, slice_index, slice_index_or}
use Rattle.reo_values.specs.declared.value.Value.{Value}
use Rattle.reo_joint_values.specs.declared.value.JointValue.{JointValue}
use Rattle.reo_rows.specs.Sets.{code_of}
use Rattle.reo_propagate.specs.ListedSets.{in_set}

-- The numbers of values are below a bound.
abbrev pub AreBelow : List JointValue → ℕ → Type 0
AreBelow values bound = (v : JointValue) → in_set values v ≡ true → code_of v < bound

-- There are few items at a joint, and no value of its set has a number past them.
pub record IsWithin (items : List (List Value)) (sets : List (List JointValue)) (j : ℕ) : Type 0 where
  pub few : length (slice_index_or items j []) < 2 ^ 32
  pub below : AreBelow (slice_index_or sets j []) (length (slice_index_or items j []) + 4)

-- A set for each list of items, and all within them.
pub record AreWithin (items : List (List Value)) (sets : List (List JointValue)) : Type 0 where
  pub one_each : length sets ≡ length items
  pub each : (j : ℕ) → j < length items → IsWithin items sets j

-- The sets of the first n joints of a list have at most one value.
abbrev pub AreSingle : List (List JointValue) → ℕ → List ℕ → Type 0
AreSingle sets n joints = (m : ℕ) → m < n → length (slice_index_or sets (slice_index joints m) []) < 2
