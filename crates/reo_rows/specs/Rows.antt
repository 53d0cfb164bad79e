-- The rows of a side that work, and the values that they use.
use Rattle.std.specs.Prelude.{ℕ, ◌+◌, ◌<◌, ◌≤◌, ◌≡◌, ◌⊎◌, true, Some, List, [], length, slice_index_or}
use Rattle.reo_values.specs.declared.value.Value.{Value}
use Rattle.reo_net_base.specs.Net.{Net, row_count}
use Rattle.reo_net_base.specs.Sides.{side_count}
use Rattle.reo_joint_values.specs.Values.{Names, Family}
use Rattle.reo_joint_values.specs.Works.{RowWorks, ValueWorks}
use Rattle.reo_side_tables.specs.Marks.{side_in, groups_in, apart_in, end_at, mark_at_joint, IsJointOf}
use Rattle.reo_rows.specs.declared.rows.Rows.{Rows}
use Rattle.reo_rows.specs.RowFlags.{flag}
use Rattle.reo_rows.specs.Sets.{value_of}
use Rattle.reo_rows.specs.Stands.{HasMark}
use Rattle.reo_rows.specs.Groups.{AreNoted}
use Rattle.reo_rows.specs.Sparing.{IsIdle}

-- A flag for each row of each side and for each value of each joint, and a note for each group.
pub record AreTables (net : Net) (items : List (List Value)) (rows : Rows) : Type 0 where
  pub sides : length rows.live ≡ side_count net
  pub width : (side : ℕ) → side < side_count net → length (slice_index_or rows.live side []) ≡ row_count (side_in net side)
  pub noted : length rows.notes ≡ side_count net
  pub groups : (side : ℕ) → side < side_count net → length (slice_index_or rows.notes side []) ≡ groups_in net side
  pub joints : length rows.seen ≡ length net.joints
  pub values : (j : ℕ) → j < length net.joints → length (slice_index_or rows.seen j []) ≡ length (slice_index_or items j []) + 4

-- Each row of a side that works has its flag.
abbrev pub AreLive : Net → Names → Family → ℕ → Rows → Type 0
AreLive net names family side rows = (row : ℕ) → RowWorks net names family side row → flag rows.live side row ≡ true

-- Each row of a side that has its flag works.
abbrev pub OnlyLive : Net → Names → Family → ℕ → Rows → Type 0
OnlyLive net names family side rows = (row : ℕ) → flag rows.live side row ≡ true → RowWorks net names family side row

-- The rows of a side that have their flag are those that work, and its groups are noted.
pub record IsSifted (net : Net) (names : Names) (family : Family) (side : ℕ) (rows : Rows) : Type 0 where
  pub works : AreLive net names family side rows
  pub only : OnlyLive net names family side rows
  pub noted : AreNoted net rows.live side rows.notes

-- A row with its flag with which a value of a joint goes.
pub record IsLiveUse (net : Net) (names : Names) (family : Family) (side : ℕ) (rows : Rows) (j code : ℕ) : Type 0 where
  pub row : ℕ
  pub set : flag rows.live side row ≡ true
  pub has : family j (value_of code) ≡ true
  pub works : ValueWorks net names family side row j (value_of code)

-- The values with flow that are seen at the joints of a side are those with which a row with its flag goes.
pub record IsSeen (net : Net) (names : Names) (family : Family) (side : ℕ) (rows : Rows) : Type 0 where
  pub sound : (j code : ℕ) → IsJointOf net side j → 4 ≤ code → flag rows.seen j code ≡ true → IsLiveUse net names family side rows j code
  pub whole : (j code : ℕ) → IsJointOf net side j → 4 ≤ code → IsLiveUse net names family side rows j code → flag rows.seen j code ≡ true

-- Whatever is said of another side stays.
pub record OtherSidesStay (side : ℕ) (old new : Rows) : Type 0 where
  pub flags : (s row : ℕ) → (s ≡ side → ⊥) → flag new.live s row ≡ flag old.live s row
  pub notes : (s : ℕ) → (s ≡ side → ⊥) → slice_index_or new.notes s [] ≡ slice_index_or old.notes s []
  pub less : (row : ℕ) → flag new.live side row ≡ true → flag old.live side row ≡ true

-- A row with its flag that a side can do without at a joint: it is apart there and does not have the mark of any value there, it
-- flows nowhere, and it is not noted of its group.
pub record IsSpare (net : Net) (family : Family) (side j row : ℕ) (rows : Rows) : Type 0 where
  pub apart : apart_in net side row ≡ Some (end_at net side j).end
  pub lacks : HasMark net family side j (mark_at_joint net side row j) → ⊥
  pub idle : IsIdle net side row (slice_index_or rows.notes side [])

-- Each row of a side that still has its flag has the mark of some value at a joint, and those that lost it could be spared.
pub record IsSpared (net : Net) (family : Family) (side j : ℕ) (old new : Rows) : Type 0 where
  pub others : OtherSidesStay side old new
  pub notes : new.notes ≡ old.notes
  pub seen : new.seen ≡ old.seen
  pub kept : (row : ℕ) → flag new.live side row ≡ true → HasMark net family side j (mark_at_joint net side row j)
  pub gone : (row : ℕ) → flag old.live side row ≡ true → (flag new.live side row ≡ true) ⊎ IsSpare net family side j row old
