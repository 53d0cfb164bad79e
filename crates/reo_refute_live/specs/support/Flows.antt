-- Rows that may stand, by their marks and by their flows.
use Rattle.std.specs.Prelude.{ℕ, ◌<◌, ◌≡◌, ◌≢◌, true, false, Option, None, List, length, slice_index, slice_index_or}
use Rattle.reo_values.specs.declared.value.Value.{Value}
use Rattle.reo_net_base.specs.Net.{Net}
use Rattle.reo_net_laws.specs.Ends.{mark_in, from_in}
use Rattle.reo_joint_values.specs.Values.{Names, Family, joint_of, giver_side}
use Rattle.reo_joint_values.specs.Works.{Follows, IsGivenIn, TakerHas}
use Rattle.reo_side_tables.specs.Marks.{TakesFlow, GivesFlow}
use Rattle.reo_refute_base.specs.Items.{Lists}
use Rattle.reo_refute_live.specs.declared.support.columns.Column.{Column}
use Rattle.reo_refute_live.specs.declared.support.live.LiveAt.{LiveAt}
use Rattle.reo_refute_live.specs.support.Columns.{joint_end, no_column, AreColumns}
use Rattle.reo_refute_live.specs.support.Families.{AreLive}
use Rattle.reo_refute_live.specs.support.Marks.{HasMark}

-- What is asked of a side: an item list for each joint, its columns, and what is live.
pub record AreReady (net : Net) (side : ℕ) (lists : Lists) (columns : List Column)
    (live : List LiveAt) : Type 0 where
  pub supply : length lists ≡ length net.joints
  pub columns_are : AreColumns net side columns
  pub live_are : AreLive lists live

-- What a row gives for what it takes in at a joint may stand where it is given.
abbrev pub IsPassedOn : Net → Names → Family → ℕ → ℕ → ℕ → Option Value → Type 0
IsPassedOn net names family side row j taken = (k : ℕ) → k < length net.joints
    → giver_side net k ≡ side → Follows net row k j → IsGivenIn net names family row k taken

-- Where a row takes in with flow by a column some item may be taken in, and where it gives with
-- flow by its state alone, what it gives may stand.
pub record FlowStands (net : Net) (names : Names) (family : Family) (side row : ℕ)
    (column : Column) : Type 0 where
  pub takes : column.gives ≡ false → TakesFlow net side row column.joint
      → TakerHas net names family side row column.joint
  pub gives : column.gives ≡ true → GivesFlow net side row column.joint
      → from_in net row (joint_of net column.joint).giver ≡ None
      → IsGivenIn net names family row column.joint None

-- The same by each column.
abbrev pub FlowsStand : Net → Names → Family → ℕ → ℕ → List Column → Type 0
FlowsStand net names family side row columns = (m : ℕ) → m < length columns
    → FlowStands net names family side row (slice_index_or columns m no_column)

-- By a column a row has the mark of some value of a family.
abbrev pub MarkStands : Net → Family → ℕ → Column → Type 0
MarkStands net family row column =
    HasMark family column.joint column.gives
    (mark_in net row (joint_end net column.joint column.gives))

-- The same by each column.
abbrev pub MarksStand : Net → Family → ℕ → List Column → Type 0
MarksStand net family row columns = (m : ℕ) → m < length columns
    → MarkStands net family row (slice_index_or columns m no_column)

-- A row whose byte is not 0, and whose flows stand.
pub record StandingRow (net : Net) (names : Names) (family : Family) (side : ℕ)
    (columns : List Column) (bytes : List ℕ) : Type 0 where
  pub row : ℕ
  pub in_range : row < length bytes
  pub set : slice_index bytes row ≢ 0
  pub stands : FlowsStand net names family side row columns
