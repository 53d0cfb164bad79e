-- A walk along some places, by marks that are left.
use Rattle.std.specs.Prelude.{ℕ, ◌≤◌, ◌≡◌, Bool, List, ◌++◌, length, take}
use Rattle.reo_net_base.specs.First.{Position, key_at}
use Rattle.reo_net_base.specs.Net.{Net}
use Rattle.reo_net_laws.specs.state_laws.Walks.{number_of, IsWalk}
use Rattle.reo_mark_sets.specs.declared.marks.PlainMarks.{PlainMarks}
use Rattle.reo_mark_sets.specs.Standing.{AreFewer}
use Rattle.reo_mark_search.specs.Fitting.{Fits, IsRival, ArePinned, AreMet}
use Rattle.reo_mark_search.specs.Places.{class_places, row_places}

-- Whatever rows have marks that are left are a walk along the places so far; and those that have
-- the same numbers there have marks that are left, too.
pub record IsWalked (net : Net) (inside : ℕ → Bool) (ps : List Position) (sets : List PlainMarks) : Type 0 where
  pub walk : (rows : List ℕ) → IsRival net inside rows → Fits net inside sets rows → IsWalk (IsRival net inside) ps rows
  pub remain : (rows others : List ℕ) → IsRival net inside rows → Fits net inside sets rows
      → IsRival net inside others → key_at ps others ≡ key_at ps rows → Fits net inside sets others

-- The walk goes on along some places.
abbrev pub GoesOn : Net → (ℕ → Bool) → List Position → List PlainMarks → List PlainMarks → Type 0
GoesOn net inside qs old new = (ps : List Position) → IsWalked net inside ps old → IsWalked net inside (ps ++ qs) new

-- At a place the least number was taken, and all that has it stays.
pub record IsTakenAt (net : Net) (inside : ℕ → Bool) (p : Position) (old new : List PlainMarks) : Type 0 where
  pub one_each : length new ≡ length old
  pub fewer : AreFewer old new
  pub number : ℕ
  pub least : (rows : List ℕ) → IsRival net inside rows → Fits net inside old rows → number ≤ number_of p rows
  pub stay : (rows : List ℕ) → IsRival net inside rows → Fits net inside old rows → number_of p rows ≡ number → Fits net inside new rows
  pub only : (rows : List ℕ) → IsRival net inside rows → Fits net inside new rows → number_of p rows ≡ number

-- At the first sides of a list the marks of one row each are left alone, and meet: whatever the
-- walk takes there, it takes nothing away.
pub record AreFixed (net : Net) (inside : ℕ → Bool) (spots : List (List ℕ)) (sides : List ℕ) (n : ℕ) (sets : List PlainMarks) (rows : List ℕ) : Type 0 where
  pub classes : (turn : ℕ) → GoesOn net inside (class_places net turn (take n sides)) sets sets
  pub numbers : GoesOn net inside (row_places (take n sides)) sets sets
  pub pinned : ArePinned net spots sides n sets rows
  pub met : AreMet net spots sides n sets
