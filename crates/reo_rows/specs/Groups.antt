-- What is known of the groups of a side.
use Rattle.std.specs.Prelude.{ℕ, ◌<◌, ◌≡◌, ◌≢◌, ◌==◌, ◌&&◌, ◌↔◌, Bool, true, false, Option, Some, None, List, [], length, slice_index, slice_index_or}
use Rattle.reo_net_base.specs.Net.{Net}
use Rattle.reo_joint_values.specs.Values.{Family}
use Rattle.reo_side_tables.specs.Marks.{groups_in, group_in, apart_in, end_at, common_at_joint, IsJointOf}
use Rattle.reo_rows.specs.declared.groups.Group.{Group}
use Rattle.reo_rows.specs.declared.groups.Odd.{Odd}
use Rattle.reo_rows.specs.declared.groups.Odd.TheVariants as odds
use Rattle.reo_rows.specs.RowFlags.{flag}
use Rattle.reo_rows.specs.Stands.{HasMark, GroupStands}

-- The rows of a group of a side that have their flags.
abbrev pub live_in : Net → List (List Bool) → ℕ → ℕ → ℕ → Bool
live_in net live side group row = flag live side row && (group_in net side row == group)

-- Of some rows of a side one is noted, and another if one of them is apart at another end.
pub record IsNotedOf (net : Net) (side : ℕ) (rows : ℕ → Bool) (noted : Group) : Type 0 where
  pub none : noted.first ≡ None → (row : ℕ) → rows row ≡ false
  pub first : (row : ℕ) → noted.first ≡ Some row → rows row ≡ true
  pub other : (row : ℕ) → noted.other ≡ Some row → rows row ≡ true
  pub differ : (row other : ℕ) → noted.first ≡ Some row → noted.other ≡ Some other → apart_in net side other ≢ apart_in net side row
  pub alike : (row other : ℕ) → noted.first ≡ Some row → noted.other ≡ None → rows other ≡ true
      → apart_in net side other ≡ apart_in net side row

-- Where a group has rows with their flags, one is noted; and another, if one is apart at another end.
abbrev pub IsNoted : Net → List (List Bool) → ℕ → ℕ → Group → Type 0
IsNoted net live side group noted = IsNotedOf net side (live_in net live side group) noted

-- Each group of a side is noted.
abbrev pub AreNoted : Net → List (List Bool) → ℕ → List (List Group) → Type 0
AreNoted net live side notes = (group : ℕ) (d : Group) → group < groups_in net side
    → IsNoted net live side group (slice_index_or (slice_index_or notes side []) group d)

-- A byte for each group of a side: it is not 0 exactly where the group has the mark of some value at each joint.
pub record AreFit (net : Net) (family : Family) (side : ℕ) (bytes : List ℕ) : Type 0 where
  pub one_each : length bytes ≡ groups_in net side
  pub fits : (group : ℕ) → group < groups_in net side → (slice_index bytes group ≢ 0) ↔ GroupStands net family side group

-- A group has no mark of a value at a joint of this end of its side.
pub record FailsAt (net : Net) (family : Family) (side group end : ℕ) : Type 0 where
  pub joint : ℕ
  pub of_side : IsJointOf net side joint
  pub here : (end_at net side joint).end ≡ end
  pub lacks : HasMark net family side joint (common_at_joint net side group joint) → ⊥

-- Where a group fails: nowhere, at one end alone, or at several.
abbrev pub IsOdd : Net → Family → ℕ → ℕ → Odd → Type 0
IsOdd net family side group odds.Nowhere = GroupStands net family side group
IsOdd net family side group (odds.At end) = FailsAt net family side group end
    × ((j : ℕ) → IsJointOf net side j → (end_at net side j).end ≢ end → HasMark net family side j (common_at_joint net side group j))
IsOdd net family side group odds.Several = (end other : ℕ) × (end ≢ other) × FailsAt net family side group end × FailsAt net family side group other

-- Where a row is apart excuses what its group has the mark of no value.
abbrev pub Excuses : Odd → Option ℕ → Type 0
Excuses odds.Nowhere apart = Unit {0}
Excuses (odds.At end) apart = apart ≡ Some end
Excuses odds.Several apart = ⊥
