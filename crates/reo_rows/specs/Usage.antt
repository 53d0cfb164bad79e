-- The marks that the rows of a side have at a joint, by groups and by rows that are apart there.
use Rattle.std.specs.Prelude.{ℕ, ◌<◌, ◌≡◌, ◌≢◌, ◌↔◌, Bool, true, Some, List, slice_index}
use Rattle.reo_net_base.specs.declared.mark.Mark.{Mark}
use Rattle.reo_net_base.specs.Net.{Net}
use Rattle.reo_side_tables.specs.Marks.{apart_in, end_at, mark_at_joint, common_at_joint}
use Rattle.reo_side_tables.specs.declared.sets.Marks.{Marks}
use Rattle.reo_side_tables.specs.Sets.{marks_has}
use Rattle.reo_rows.specs.RowFlags.{flag}
use Rattle.reo_rows.specs.Groups.{live_in}

-- One of some rows of a side is not apart at an end.
pub record HasCommonRow (net : Net) (rows : ℕ → Bool) (side end : ℕ) : Type 0 where
  pub row : ℕ
  pub has : rows row ≡ true
  pub common : apart_in net side row ≢ Some end

-- One of the first n groups of a side has this mark at a joint, and so has a row of it with its flag.
pub record IsCommonMark (net : Net) (live : List (List Bool)) (side j n : ℕ) (mark : Mark) : Type 0 where
  pub group : ℕ
  pub below : group < n
  pub says : common_at_joint net side group j ≡ mark
  pub used : HasCommonRow net (live_in net live side group) side (end_at net side j).end

-- One of the first n rows of a list has its flag, and this mark at a joint.
pub record IsListedMark (net : Net) (live : List (List Bool)) (side j : ℕ) (list : List ℕ) (n : ℕ) (mark : Mark) : Type 0 where
  pub place : ℕ
  pub below : place < n
  pub set : flag live side (slice_index list place) ≡ true
  pub says : mark_at_joint net side (slice_index list place) j ≡ mark

-- The marks that the rows of a side with their flags have at a joint.
abbrev pub AreUsedMarks : Net → List (List Bool) → ℕ → ℕ → Marks → Type 0
AreUsedMarks net live side j marks = (m : Mark) → (marks_has marks m ≡ true)
    ↔ ((row : ℕ) × (flag live side row ≡ true) × (mark_at_joint net side row j ≡ m))
