-- Rows that stand at a side, and narrowing there.
use Rattle.std.specs.Prelude.{ℕ, ◌+◌, ◌<◌, ◌≤◌, ◌≡◌, ◌≢◌, ◌↔◌, Bool, true, not, List, length, slice_index}
use Rattle.std.specs.Prelude.{Contains}
use Rattle.reo_net_base.specs.declared.mark.Mark.{Mark}
use Rattle.reo_net_base.specs.declared.form.Form.{Form}
use Rattle.reo_net_base.specs.declared.form.Form.TheVariants.{Single, Double, Merging, Replicating}
use Rattle.reo_net_base.specs.Forms.{rows_by, mark_by, class_by}
use Rattle.reo_mark_sets.specs.declared.marks.PlainMarks.{PlainMarks}
use Rattle.reo_mark_sets.specs.Listed.{is_single}
use Rattle.reo_mark_sets.specs.PlainMarks.{has, just, partner, marks_at, open_at, all_marks}

-- How many ends a side of a form has.
abbrev pub width_by : Form → ℕ
width_by (Single table) = 1
width_by (Double table) = 2
width_by (Merging branches) = branches.count + 1
width_by (Replicating branches) = branches.count + 1

-- Whether a form has tables of as many ends as it has.
abbrev pub is_usual : Form → Bool
is_usual (Single table) = is_single table
is_usual (Double table) = not (is_single table)
is_usual (Merging branches) = true
is_usual (Replicating branches) = true

-- The places of the ends of a side among so many: each once, and no two of one joint.
pub record ArePlaces (count : ℕ) (places : List ℕ) : Type 0 where
  pub in_range : (o : ℕ) → o < length places → slice_index places o < count
  pub partner_in : (o : ℕ) → o < length places → partner (slice_index places o) < count
  pub once : (o p : ℕ) → o < length places → p < length places
      → slice_index places o ≡ slice_index places p → o ≡ p
  pub apart : (o p : ℕ) → o < length places → p < length places
      → partner (slice_index places o) ≢ slice_index places p

-- A row, not the jam row, whose marks are among those of the places.
pub record Stands (form : Form) (places : List ℕ) (sets : List PlainMarks) (row : ℕ) : Type 0 where
  pub plain : row + 1 < rows_by form
  pub each : (o : ℕ) → o < length places
      → has (marks_at sets (slice_index places o)) (mark_by form row o) ≡ true

-- A row that stands, each of whose marks meets one at the other end of its joint.
pub record Works (form : Form) (places : List ℕ) (sets : List PlainMarks) (row : ℕ) : Type 0 where
  pub plain : row + 1 < rows_by form
  pub each : (o : ℕ) → o < length places
      → has (open_at sets (slice_index places o)) (mark_by form row o) ≡ true

-- All that is not at the places stays.
pub record AreElsewhere (places : List ℕ) (old new : List PlainMarks) : Type 0 where
  pub one_each : length new ≡ length old
  pub others : (x : ℕ) → (Contains places x → ⊥) → marks_at new x ≡ marks_at old x

-- At the places just the marks stay that a row has which works.
pub record IsNarrowed (form : Form) (places : List ℕ) (old new : List PlainMarks) : Type 0 where
  pub elsewhere : AreElsewhere places old new
  pub exact : (o : ℕ) (mark : Mark) → o < length places
      → (has (marks_at new (slice_index places o)) mark ≡ true)
      ↔ ((row : ℕ) × Works form places old row × (mark_by form row o ≡ mark))

-- A row works.
abbrev pub SomeWorks : Form → List ℕ → List PlainMarks → Type 0
SomeWorks form places sets = (row : ℕ) × Works form places sets row

-- Each mark is one of those that were there.
abbrev pub AreFewer : List PlainMarks → List PlainMarks → Type 0
AreFewer old new = (x : ℕ) (mark : Mark) → has (marks_at new x) mark ≡ true → has (marks_at old x) mark ≡ true

-- Of the rows that stand just those of the least class stay.
pub record IsClassed (form : Form) (places : List ℕ) (turn : ℕ) (old new : List PlainMarks) : Type 0 where
  pub elsewhere : AreElsewhere places old new
  pub fewer : AreFewer old new
  pub class : ℕ
  pub least : (row : ℕ) → Stands form places old row → class ≤ class_by form row turn
  pub stay : (row : ℕ) → Stands form places old row → class_by form row turn ≡ class → Stands form places new row
  pub only : (row : ℕ) → Stands form places new row → class_by form row turn ≡ class

-- A row, not the jam row, before which none stands.
pub record IsLeastRow (form : Form) (places : List ℕ) (sets : List PlainMarks) (row : ℕ) : Type 0 where
  pub plain : row + 1 < rows_by form
  pub least : (other : ℕ) → Stands form places sets other → row ≤ other

-- Just the marks of that row stay.
pub record IsChosen (form : Form) (places : List ℕ) (row : ℕ) (old new : List PlainMarks) : Type 0 where
  pub elsewhere : AreElsewhere places old new
  pub first : IsLeastRow form places old row
  pub exact : (o : ℕ) (mark : Mark) → o < length places
      → (has (marks_at new (slice_index places o)) mark ≡ true)
      ↔ ((has (marks_at old (slice_index places o)) mark ≡ true) × (mark_by form row o ≡ mark))

-- A mark that stands at a place stands there alone, and meets one.
abbrev pub IsSole : List PlainMarks → ℕ → Type 0
IsSole sets place = (mark : Mark) → has (marks_at sets place) mark ≡ true → (marks_at sets place ≡ just mark) × (has (open_at sets place) mark ≡ true)

-- The marks of that row alone stand already, and some mark at each place meets one.
pub record IsFixed (form : Form) (places : List ℕ) (row : ℕ) (sets : List PlainMarks) : Type 0 where
  pub chosen : IsChosen form places row sets sets
  pub meets : (o : ℕ) → o < length places → (mark : Mark) × (has (open_at sets (slice_index places o)) mark ≡ true)

-- All marks stand at the places, and wherever they stood.
pub record AreAll (places : List ℕ) (old new : List PlainMarks) : Type 0 where
  pub one_each : length new ≡ length old
  pub here : (o : ℕ) → o < length places → marks_at new (slice_index places o) ≡ all_marks
  pub stays : (x : ℕ) → marks_at old x ≡ all_marks → marks_at new x ≡ all_marks
