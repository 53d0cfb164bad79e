-- Rows that a side can do without.
use Rattle.std.specs.Prelude.{ℕ, ◌<◌, ◌≡◌, ◌≢◌, ◌⊎◌, Bool, true, false, Some, None, List, length, slice_index, slice_index_or}
use Rattle.reo_net_base.specs.declared.mark.Mark.TheVariants.{F}
use Rattle.reo_net_base.specs.Net.{Net}
use Rattle.reo_side_tables.specs.Listing.{StandsIn}
use Rattle.reo_side_tables.specs.Marks.{groups_in, group_in, mark_at_joint, common_at_joint, IsJointOf}
use Rattle.reo_rows.specs.declared.groups.Group.{Group}
use Rattle.reo_side_tables.specs.declared.sets.Marks.{Marks}
use Rattle.reo_rows.specs.RowFlags.{flag}
use Rattle.reo_side_tables.specs.Sets.{marks_has}

-- A row that flows nowhere and is not noted of its group, where these are the notes of its side.
pub record IsIdle (net : Net) (side row : ℕ) (notes : List Group) : Type 0 where
  pub still : (j : ℕ) → IsJointOf net side j → mark_at_joint net side row j ≢ F
  pub first : (d : Group) → (slice_index_or notes (group_in net side row) d).first ≢ Some row
  pub other : (d : Group) → (slice_index_or notes (group_in net side row) d).other ≢ Some row

-- A row has its flag, and its mark at a joint is none of these.
pub record IsLacking (net : Net) (live : List (List Bool)) (side j : ℕ) (marks : Marks) (row : ℕ) : Type 0 where
  pub set : flag live side row ≡ true
  pub lacks : marks_has marks (mark_at_joint net side row j) ≡ false

-- Each row of a list that lacks a mark is idle.
abbrev pub CanSpare : Net → List (List Bool) → List Group → ℕ → ℕ → Marks → List ℕ → Type 0
CanSpare net live notes side j marks list = (m : ℕ) → m < length list → IsLacking net live side j marks (slice_index list m)
    → IsIdle net side (slice_index list m) notes

-- Of the first n rows of a list those that lacked a mark have lost their flags, and no others.
pub record AreCleared (net : Net) (side j : ℕ) (marks : Marks) (list : List ℕ) (n : ℕ) (old new : List (List Bool)) : Type 0 where
  pub others : (s row : ℕ) → s ≢ side → flag new s row ≡ flag old s row
  pub less : (row : ℕ) → flag new side row ≡ true → flag old side row ≡ true
  pub gone : (m : ℕ) → m < n → flag new side (slice_index list m) ≡ true
      → marks_has marks (mark_at_joint net side (slice_index list m) j) ≡ true
  pub kept : (row : ℕ) → flag old side row ≡ true
      → (flag new side row ≡ true) ⊎ (StandsIn list row × IsLacking net old side j marks row)

-- Each group of which a row is noted has one of these marks at a joint.
abbrev pub GroupsHave : Net → List Group → ℕ → ℕ → Marks → Type 0
GroupsHave net notes side j marks = (group : ℕ) (d : Group) → group < groups_in net side → (slice_index_or notes group d).first ≢ None
    → marks_has marks (common_at_joint net side group j) ≡ true
