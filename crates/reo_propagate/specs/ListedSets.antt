-- Sets of joint values as lists.
use Rattle.std.specs.Prelude.{ℕ, ◌+◌, ◌<◌, ◌≡◌, ◌≢◌, ◌&&◌, ◌||◌, ◌↔◌, Bool, true, false, List, [], ◌∷◌, length, slice_index_or}
use Rattle.reo_values.specs.declared.value.Value.{Value}
use Rattle.reo_net_base.specs.Net.{Net}
use Rattle.reo_joint_values.specs.declared.value.JointValue.{JointValue}
use Rattle.reo_joint_values.specs.Values.{value_eq, Names, Family}
use Rattle.reo_joint_values.specs.Supported.{IsInGreatest}
use Rattle.reo_side_tables.specs.Marks.{IsJointOf}
use Rattle.reo_rows.specs.RowFlags.{flag, AreAlikeTables}
use Rattle.reo_rows.specs.Sets.{code_of, family_of}

-- Whether a list has a value.
abbrev pub in_set : List JointValue → JointValue → Bool
in_set [] v = false
in_set (w ∷ ws) v = value_eq w v || in_set ws v

-- The family that lists of values tell.
abbrev pub listed : List (List JointValue) → Family
listed sets j v = in_set (slice_index_or sets j []) v

-- The values of a list that have a flag came to those of a joint.
pub record ArePut (joint : ℕ) (values : List JointValue) (old new : List (List Bool)) : Type 0 where
  pub alike : AreAlikeTables old new
  pub elsewhere : (i p : ℕ) → i ≢ joint → flag new i p ≡ flag old i p
  pub here : (v : JointValue) → code_of v < length (slice_index_or old joint [])
      → family_of new joint v ≡ (family_of old joint v || in_set values v)

-- Where a test of joints holds, only the values that have their flags have stayed; other lists are as
-- they were.
pub record AreKept (at : ℕ → Bool) (alive : List (List Bool)) (old new : List (List JointValue))
    : Type 0 where
  pub one_each : length new ≡ length old
  pub here : (j : ℕ) (v : JointValue) → at j ≡ true
      → listed new j v ≡ (listed old j v && family_of alive j v)
  pub other : (j : ℕ) → at j ≡ false → slice_index_or new j [] ≡ slice_index_or old j []

-- Where a test of joints holds, there is some value.
abbrev pub HaveSome : (ℕ → Bool) → List (List JointValue) → Type 0
HaveSome at sets = (j : ℕ) → j < length sets → at j ≡ true
    → (v : JointValue) × (listed sets j v ≡ true)

-- Where a test of joints holds, each value has a flag, which is set or not.
abbrev pub HaveFlags : (ℕ → Bool) → List (List Bool) → List (List JointValue) → Type 0
HaveFlags at alive sets = (j : ℕ) (v : JointValue) → at j ≡ true → listed sets j v ≡ true
    → code_of v < length (slice_index_or alive j [])

-- The values that have their flags at the joints of these sides are those of the greatest supported
-- family within some sets.
abbrev pub AreLeft : Net → Names → (ℕ → Bool) → Family → List (List Bool) → Type 0
AreLeft net names inside sets alive = (j side : ℕ) (v : JointValue) → IsJointOf net side j
    → inside side ≡ true → (family_of alive j v ≡ true) ↔ IsInGreatest net names inside sets j v

-- At the joints of these sides each value with flow has the number of an item.
abbrev pub AreInSupply : Net → (ℕ → Bool) → List (List Value) → Family → Type 0
AreInSupply net inside items family = (j side : ℕ) (v : JointValue) → IsJointOf net side j
    → inside side ≡ true → family j v ≡ true → code_of v < length (slice_index_or items j []) + 4

-- Each joint of these sides has some value.
abbrev pub AreFullAt : Net → (ℕ → Bool) → Family → Type 0
AreFullAt net inside family = (j side : ℕ) → IsJointOf net side j → inside side ≡ true
    → (v : JointValue) × (family j v ≡ true)
