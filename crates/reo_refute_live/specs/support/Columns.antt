-- The tables of sides, by columns.
use Rattle.std.specs.Prelude.{ℕ, ◌<◌, ◌≡◌, Bool, true, false, List, [], ◌∷◌, ◌++◌, length, slice_index, slice_index_or, slice_set}
use Rattle.reo_net_base.specs.declared.joint.End.{End}
use Rattle.reo_net_base.specs.Net.{Net, Side, all_sides, row_count, behaviour_at, side_at}
use Rattle.reo_net_base.specs.Sides.{side_count}
use Rattle.reo_net_laws.specs.Ends.{mark_in}
use Rattle.reo_joint_values.specs.Values.{joint_of, giver_side, taker_side}
use Rattle.reo_refute_live.specs.declared.support.columns.Column.{Column}
use Rattle.reo_side_tables.specs.Marks.{byte_of}

-- The giver of a joint, or its taker.
abbrev pub joint_end : Net → ℕ → Bool → End
joint_end net j true = (joint_of net j).giver
joint_end net j false = (joint_of net j).taker

-- A byte for each row of a side.
abbrev pub HasBytes : Net → ℕ → List ℕ → Type 0
HasBytes net side bytes = (d : Side)
    → length bytes ≡ row_count (slice_index_or (all_sides net.primitives) side d)

-- The bytes of the marks of all rows at an end.
pub record AreMarksAt (net : Net) (e : End) (marks : List ℕ) : Type 0 where
  pub one_each : length marks
      ≡ (behaviour_at net.primitives e.primitive).rows
      ((behaviour_at net.primitives e.primitive).side_of e.end)
  pub exact : (row : ℕ) → row < length marks
      → slice_index marks row ≡ byte_of (mark_in net row e)

-- The column of the giver of a joint, or of its taker.
pub record IsColumnOf (net : Net) (j : ℕ) (gives : Bool) (column : Column) : Type 0 where
  pub joint : column.joint ≡ j
  pub gives_is : column.gives ≡ gives
  pub marks : AreMarksAt net (joint_end net j gives) column.marks

-- What is read past the last column.
abbrev pub no_column : Column
no_column = record { joint = 0; gives = false; marks = [] }

-- The column of an end of a side.
pub record IsColumn (net : Net) (side : ℕ) (column : Column) : Type 0 where
  pub in_range : column.joint < length net.joints
  pub at_side : side_at net (joint_end net column.joint column.gives) ≡ side
  pub marks : AreMarksAt net (joint_end net column.joint column.gives) column.marks

-- A column of the giver of a joint, or of its taker, is in a table.
pub record HasColumn (columns : List Column) (j : ℕ) (gives : Bool) : Type 0 where
  pub place : ℕ
  pub in_range : place < length columns
  pub joint : (slice_index_or columns place no_column).joint ≡ j
  pub gives_is : (slice_index_or columns place no_column).gives ≡ gives

-- The columns of a side at the first n joints.
pub record AreColumnsBelow (net : Net) (side n : ℕ) (columns : List Column) : Type 0 where
  pub each : (m : ℕ) → m < length columns → IsColumn net side (slice_index_or columns m no_column)
  pub givers : (j : ℕ) → j < n → giver_side net j ≡ side → HasColumn columns j true
  pub takers : (j : ℕ) → j < n → taker_side net j ≡ side → HasColumn columns j false

-- The columns of a side, at all joints.
abbrev pub AreColumns : Net → ℕ → List Column → Type 0
AreColumns net side columns = AreColumnsBelow net side (length net.joints) columns

-- A column was added to the table of its side.
pub record IsColumnAdded (net : Net) (j : ℕ) (gives : Bool) (old new : List (List Column))
    : Type 0 where
  pub column : Column
  pub is : IsColumnOf net j gives column
  pub after : new ≡ slice_set old (side_at net (joint_end net j gives))
      (slice_index_or old (side_at net (joint_end net j gives)) [] ++ (column ∷ []))

-- For each side its columns.
pub record AreTables (net : Net) (tables : List (List Column)) : Type 0 where
  pub one_each : length tables ≡ side_count net
  pub columns : (side : ℕ) → side < side_count net
      → AreColumns net side (slice_index_or tables side [])
