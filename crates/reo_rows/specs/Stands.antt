-- Which rows can stand, by their marks and by their flows.
use Rattle.std.specs.Prelude.{ℕ, ◌≡◌, ◌≢◌, ◌==◌, true, cond, Option, Some, None}
use Rattle.reo_net_base.specs.declared.mark.Mark.{Mark}
use Rattle.reo_net_base.specs.Net.{Net}
use Rattle.reo_net_laws.specs.Ends.{from_in}
use Rattle.reo_joint_values.specs.declared.value.JointValue.{JointValue}
use Rattle.reo_joint_values.specs.Values.{Names, Family, giver_mark, taker_mark, joint_of, giver_side}
use Rattle.reo_joint_values.specs.Works.{IsGivenIn, TakerHas}
use Rattle.reo_side_tables.specs.Marks.{end_at, mark_at_joint, common_at_joint, IsJointOf, TakesFlow, GivesFlow}

-- The mark of a value of a joint, as a side of the joint sees it.
abbrev pub value_mark : Net → ℕ → ℕ → JointValue → Mark
value_mark net side j v = cond (giver_side net j == side) (giver_mark v) (taker_mark v)

-- A joint of a side has a value with this mark there.
pub record HasMark (net : Net) (family : Family) (side j : ℕ) (mark : Mark) : Type 0 where
  pub value : JointValue
  pub has : family j value ≡ true
  pub marked : value_mark net side j value ≡ mark

-- At each joint of its side the row has the mark of some value.
abbrev pub MarksStand : Net → Family → ℕ → ℕ → Type 0
MarksStand net family side row = (j : ℕ) → IsJointOf net side j → HasMark net family side j (mark_at_joint net side row j)

-- A joint of a side at an end.
pub record IsAtEnd (net : Net) (side end j : ℕ) : Type 0 where
  pub of_side : IsJointOf net side j
  pub here : (end_at net side j).end ≡ end

-- At a joint at an end of its side the row has the mark of some value.
abbrev pub StandsAtEnd : Net → Family → ℕ → ℕ → ℕ → Type 0
StandsAtEnd net family side row end = (j : ℕ) → IsJointOf net side j → (end_at net side j).end ≡ end
    → HasMark net family side j (mark_at_joint net side row j)

-- At each joint of the side the group has the mark of some value.
abbrev pub GroupStands : Net → Family → ℕ → ℕ → Type 0
GroupStands net family side group = (j : ℕ) → IsJointOf net side j → HasMark net family side j (common_at_joint net side group j)

-- At each joint of the side, but for those at one end, the group has the mark of some value.
abbrev pub GroupStandsBesides : Net → Family → ℕ → ℕ → Option ℕ → Type 0
GroupStandsBesides net family side group besides = (j : ℕ) → IsJointOf net side j → besides ≢ Some (end_at net side j).end
    → HasMark net family side j (common_at_joint net side group j)

-- Where the row takes in with flow some item may be taken in, and where it gives with flow by its state alone, what it gives
-- may stand.
pub record FlowsStand (net : Net) (names : Names) (family : Family) (side row : ℕ) : Type 0 where
  pub takes : (j : ℕ) → TakesFlow net side row j → TakerHas net names family side row j
  pub gives : (k : ℕ) → GivesFlow net side row k → from_in net row (joint_of net k).giver ≡ None → IsGivenIn net names family row k None
