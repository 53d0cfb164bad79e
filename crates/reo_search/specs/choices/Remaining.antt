-- The values that are left at loop joints.
use Rattle.std.specs.Prelude.{ℕ, ◌+◌, ◌<◌, ◌≡◌, Bool, true, List, [], Contains, filter, length, map, slice_index, slice_index_or}
use Rattle.reo_values.specs.declared.value.Value.{Value}
use Rattle.reo_net_base.specs.Net.{Net}
use Rattle.reo_net_laws.specs.Knots.{IsLoop, AreThose}
use Rattle.reo_weights.specs.Weights.{all_values, product_of}
use Rattle.reo_joint_values.specs.declared.value.JointValue.{JointValue}
use Rattle.reo_joint_values.specs.Values.{Names, Choice, giver_side}
use Rattle.reo_joint_values.specs.Supported.{IsSupported, IsNarrowed}
use Rattle.reo_joint_values.specs.Chosen.{IsChosen}
use Rattle.reo_side_tables.specs.Marks.{IsJointOf}
use Rattle.reo_rows.specs.RowFlags.{flag}
use Rattle.reo_rows.specs.Sets.{code_of, family_of}

-- The loop joints of a set of sides.
pub record AreLoopsIn (net : Net) (inside : ℕ → Bool) (loops : List ℕ) : Type 0 where
  pub in_range : (m : ℕ) → m < length loops → slice_index loops m < length net.joints
  pub here : (m : ℕ) → m < length loops → inside (giver_side net (slice_index loops m)) ≡ true
  pub whole : (j : ℕ) → j < length net.joints → inside (giver_side net j) ≡ true → IsLoop net j → Contains loops j

-- At the joints of some sides each value is there that has its place.
abbrev pub AllAreThere : Net → List (List Value) → (ℕ → Bool) → List (List Bool) → Type 0
AllAreThere net items inside alive = (j side : ℕ) (v : JointValue) → IsJointOf net side j → inside side ≡ true
    → code_of v < length (slice_index_or items j []) + 4 → family_of alive j v ≡ true

-- What is left is supported, and no value of a supported family has gone out of all values.
pub record IsLeftOfAll (net : Net) (names : Names) (inside : ℕ → Bool) (alive : List (List Bool)) : Type 0 where
  pub narrowed : IsNarrowed net names inside (all_values names) (family_of alive)
  pub supported : IsSupported net names inside (family_of alive)

-- The places of the flags that are set at a joint.
abbrev pub AreCodesAt : List (List Bool) → ℕ → List ℕ → Type 0
AreCodesAt alive j codes = AreThose (λ c. flag alive j c ≡ true) codes

-- The places of the flags that are set at the first n of some joints.
pub record AreCodes (alive : List (List Bool)) (joints : List ℕ) (n : ℕ) (left : List (List ℕ)) : Type 0 where
  pub one_each : length left ≡ n
  pub each : (m : ℕ) → m < n → AreCodesAt alive (slice_index joints m) (slice_index_or left m [])

-- At most one flag is set at a joint.
abbrev pub HasOneAt : List (List Bool) → ℕ → Type 0
HasOneAt alive j = (c d : ℕ) → flag alive j c ≡ true → flag alive j d ≡ true → c ≡ d

-- Those of a list whose flags are set at the joint of a number.
abbrev pub kept_from : List (List Bool) → List ℕ → List (List ℕ) → ℕ → List ℕ
kept_from alive joints left m = filter (λ c. flag alive (slice_index joints m) c) (slice_index_or left m [])

-- From the lists for the first n of some joints those have stayed whose flags are set there, and some at each.
pub record AreKept (alive : List (List Bool)) (joints : List ℕ) (left : List (List ℕ)) (n : ℕ) (kept : List (List ℕ)) : Type 0 where
  pub one_each : length kept ≡ n
  pub each : (m : ℕ) → m < n → slice_index_or kept m [] ≡ kept_from alive joints left m
  pub some : (m : ℕ) → m < n → 0 < length (slice_index_or kept m [])

-- From the list for one of some joints none stays.
abbrev pub HasEmpty : List (List Bool) → List ℕ → List (List ℕ) → Type 0
HasEmpty alive joints left = (m : ℕ) × (m < length joints) × (kept_from alive joints left m ≡ [])

-- How many choices there are of one of each list.
abbrev pub choices_of : List (List ℕ) → ℕ
choices_of left = product_of (map length left)

-- Each assignment has at each of some joints one of these values.
abbrev pub CoverAll : Net → Names → (ℕ → Bool) → List ℕ → List (List ℕ) → Type 0
CoverAll net names inside loops left = (rows : ℕ → ℕ) (choice : Choice) → IsChosen net names inside (all_values names) rows choice
    → (m : ℕ) → m < length loops → Contains (slice_index_or left m []) (code_of (choice (slice_index loops m)))
