-- Which values are seen while the rows of a side are gone through.
use Rattle.std.specs.Prelude.{ℕ, ◌+◌, ◌<◌, ◌≤◌, ◌≡◌, ◌⊎◌, Bool, true, Option, None, List, [], length, slice_index_or}
use Rattle.reo_values.specs.declared.value.Value.{Value}
use Rattle.reo_net_base.specs.Net.{Net}
use Rattle.reo_net_laws.specs.Ends.{from_in}
use Rattle.reo_joint_values.specs.Values.{Names, Family, item_named, joint_of, giver_side}
use Rattle.reo_joint_values.specs.Works.{Follows, IsGivenAs, TakerWorks, ValueWorks}
use Rattle.reo_side_tables.specs.Marks.{IsJointOf}
use Rattle.reo_rows.specs.RowFlags.{flag, AreAlikeTables}
use Rattle.reo_rows.specs.Sets.{value_of}

-- A flag for each value of each joint.
pub record HasValuePlaces (net : Net) (items : List (List Value)) (table : List (List Bool)) : Type 0 where
  pub one_each : length table ≡ length net.joints
  pub width : (j : ℕ) → j < length net.joints → length (slice_index_or table j []) ≡ length (slice_index_or items j []) + 4

-- To what was seen the values came, by joint and place, of which something holds.
pub record AreSeen (uses : ℕ → ℕ → Type 0) (old new : List (List Bool)) : Type 0 where
  pub alike : AreAlikeTables old new
  pub stays : (j code : ℕ) → flag old j code ≡ true → flag new j code ≡ true
  pub sound : (j code : ℕ) → flag new j code ≡ true → (flag old j code ≡ true) ⊎ uses j code
  pub whole : (j code : ℕ) → uses j code → flag new j code ≡ true

-- It holds of a value by one of the first n.
abbrev pub Below : (ℕ → ℕ → ℕ → Type 0) → ℕ → ℕ → ℕ → Type 0
Below uses n j code = (m : ℕ) × (m < n) × uses m j code

-- The value of one place at the joint k, which a row gives there with flow for what it takes.
pub record IsGivenValue (net : Net) (names : Names) (family : Family) (row k : ℕ) (taken : Option Value) (place j code : ℕ) : Type 0 where
  pub here : j ≡ k
  pub is : code ≡ place
  pub flows : 4 ≤ place
  pub has : family k (value_of place) ≡ true
  pub given : IsGivenAs net names row k taken (value_of place)

-- A value that a row gives with flow at the joint k for what it takes.
abbrev pub GivenUse : Net → Names → Family → ℕ → ℕ → Option Value → ℕ → ℕ → Type 0
GivenUse net names family row k taken j code = IsGivenValue net names family row k taken code j code

-- A value that a row gives at the joint k for what it takes in at another, if it hangs on that.
pub record FollowedUse (net : Net) (names : Names) (family : Family) (row source : ℕ) (taken : Option Value) (k j code : ℕ) : Type 0 where
  pub follows : Follows net row k source
  pub given : GivenUse net names family row k taken j code

-- A value that a row gives at some joint of its side for what it takes in at another.
pub record FollowUse (net : Net) (names : Names) (family : Family) (side row source : ℕ) (taken : Option Value) (j code : ℕ) : Type 0 where
  pub in_range : j < length net.joints
  pub here : giver_side net j ≡ side
  pub followed : FollowedUse net names family row source taken j j code

-- The value of one place, which a row takes in with flow at a joint, or one that the row gives for it.
pub record TakenUse (net : Net) (names : Names) (family : Family) (side row source place j code : ℕ) : Type 0 where
  pub flows : 4 ≤ place
  pub works : TakerWorks net names family side row source (value_of place)
  pub goes : ((j ≡ source) × (code ≡ place))
      ⊎ FollowUse net names family side row source (item_named names source (value_of place)) j code

-- A value that a row takes in with flow at a joint, or one that the row gives for such a value.
abbrev pub TakesUse : Net → Names → Family → ℕ → ℕ → ℕ → ℕ → ℕ → Type 0
TakesUse net names family side row source j code = (place : ℕ) × TakenUse net names family side row source place j code

-- A value that a row gives with flow at the joint k by its state alone.
pub record AloneUse (net : Net) (names : Names) (family : Family) (row k j code : ℕ) : Type 0 where
  pub alone : from_in net row (joint_of net k).giver ≡ None
  pub given : GivenUse net names family row k None j code

-- A value with flow that goes with a row.
pub record RowUse (net : Net) (names : Names) (family : Family) (side row j code : ℕ) : Type 0 where
  pub of_side : IsJointOf net side j
  pub flows : 4 ≤ code
  pub has : family j (value_of code) ≡ true
  pub works : ValueWorks net names family side row j (value_of code)

-- A value with flow that goes with a row that has its flag.
pub record LiveRowUse (net : Net) (names : Names) (family : Family) (live : List (List Bool)) (side row j code : ℕ) : Type 0 where
  pub set : flag live side row ≡ true
  pub goes : RowUse net names family side row j code
