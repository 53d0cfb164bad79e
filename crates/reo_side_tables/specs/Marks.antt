-- Marks as bytes, and what a row or a group of rows of a side says at a joint there.
use Rattle.std.specs.Prelude.{ℕ, ◌<◌, ◌≡◌, ◌==◌, cond, Option, Some, length}
use Rattle.reo_net_base.specs.declared.mark.Mark.{Mark}
use Rattle.reo_net_base.specs.declared.mark.Mark.TheVariants.{F, G, R, J}
use Rattle.reo_net_base.specs.declared.joint.End.{End}
use Rattle.reo_net_base.specs.Net.{Net, Side, all_sides, no_side}
use Rattle.std.specs.Prelude.{slice_index_or}
use Rattle.reo_net_laws.specs.Ends.{mark_in, IsRowOf}
use Rattle.reo_joint_values.specs.Values.{joint_of, giver_side, taker_side, AtSide}

-- The byte of a mark: one bit.
abbrev pub byte_of : Mark → ℕ
byte_of F = 1
byte_of G = 2
byte_of R = 4
byte_of J = 8

-- A side, by its number among all sides.
abbrev pub side_in : Net → ℕ → Side
side_in net side = slice_index_or (all_sides net.primitives) side no_side

-- How many groups the rows of a side stand in.
abbrev pub groups_in : Net → ℕ → ℕ
groups_in net side = (side_in net side).of.groups (side_in net side).number

-- The group of a row of a side.
abbrev pub group_in : Net → ℕ → ℕ → ℕ
group_in net side row = (side_in net side).of.group (side_in net side).number row

-- The end at which a row of a side is not as its group, if there is one.
abbrev pub apart_in : Net → ℕ → ℕ → Option ℕ
apart_in net side row = (side_in net side).of.apart (side_in net side).number row

-- What a group of rows of a side says of an end there.
abbrev pub common_in : Net → ℕ → ℕ → ℕ → Mark
common_in net side group end = (side_in net side).of.common (side_in net side).number group end

-- The end of a joint that is of a side.
abbrev pub end_at : Net → ℕ → ℕ → End
end_at net side j = cond (giver_side net j == side) (joint_of net j).giver (joint_of net j).taker

-- The mark that a row of a side has at a joint there.
abbrev pub mark_at_joint : Net → ℕ → ℕ → ℕ → Mark
mark_at_joint net side row j = mark_in net row (end_at net side j)

-- The mark that a group of rows of a side has at a joint there.
abbrev pub common_at_joint : Net → ℕ → ℕ → ℕ → Mark
common_at_joint net side group j = common_in net side group (end_at net side j).end

-- A joint of a side.
pub record IsJointOf (net : Net) (side j : ℕ) : Type 0 where
  pub in_range : j < length net.joints
  pub here : AtSide net j side

-- A row takes an item in at a joint of its side.
pub record TakesFlow (net : Net) (side row j : ℕ) : Type 0 where
  pub in_range : j < length net.joints
  pub here : taker_side net j ≡ side
  pub flows : mark_in net row (joint_of net j).taker ≡ F

-- A row gives an item at a joint of its side.
pub record GivesFlow (net : Net) (side row j : ℕ) : Type 0 where
  pub in_range : j < length net.joints
  pub here : giver_side net j ≡ side
  pub flows : mark_in net row (joint_of net j).giver ≡ F

-- A row of a side that is not as its group at an end.
pub record IsApartAt (net : Net) (side end row : ℕ) : Type 0 where
  pub in_table : IsRowOf net side row
  pub apart : apart_in net side row ≡ Some end
