-- Rows that are listed, and what they say of one end or of two.
use Rattle.std.specs.Prelude.{ℕ, suc, Bool, true, false, ◌&&◌, ◌||◌, ◌==◌, not, cond, nat_le, List, [], ◌∷◌, slice_index_or}
use Rattle.reo_net_base.specs.declared.mark.Mark.{Mark}
use Rattle.reo_net_base.specs.declared.mark.Mark.TheVariants.{J}
use Rattle.reo_net_base.specs.declared.table.Table.{Table}
use Rattle.reo_net_base.specs.declared.table.Table.TheVariants.{Ready, Resting, Together, Lossy, OneOfTwo, Filter, Spent}
use Rattle.reo_net_base.specs.Rows.{Rows}
use Rattle.reo_mark_sets.specs.declared.marks.PlainMarks.{PlainMarks}
use Rattle.reo_mark_sets.specs.declared.listed.Pair.{Pair}
use Rattle.reo_mark_sets.specs.PlainMarks.{has, is_mark, marks_where}

abbrev pub mark_of : List Mark → ℕ → Mark
mark_of row end = slice_index_or row end J

-- Whether a row has one of some marks at its one end, or at each of its two ends.
abbrev pub fits_one : PlainMarks → List Mark → Bool
fits_one a row = has a (mark_of row 0)

abbrev pub fits_two : PlainMarks → PlainMarks → List Mark → Bool
fits_two a b row = has a (mark_of row 0) && has b (mark_of row 1)

-- Whether some row that passes a test has a mark at an end.
abbrev pub is_used : Rows → (List Mark → Bool) → ℕ → Mark → Bool
is_used [] fits end mark = false
is_used (row ∷ rows) fits end mark = (fits row && is_mark mark (mark_of row end)) || is_used rows fits end mark

-- The marks at an end of the rows that pass a test.
abbrev pub used_at : Rows → (List Mark → Bool) → ℕ → PlainMarks
used_at rows fits end = marks_where (is_used rows fits end)

-- The marks of the rows that fit two ends.
abbrev pub used_pair : Rows → PlainMarks → PlainMarks → Pair
used_pair rows a b = record { first = used_at rows (fits_two a b) 0; second = used_at rows (fits_two a b) 1 }

-- The first row that passes a test, or else the last.
abbrev pub first_fit : Rows → (List Mark → Bool) → ℕ
first_fit [] fits = 0
first_fit (row ∷ []) fits = 0
first_fit (row ∷ (next ∷ rows)) fits = cond (fits row) 0 (suc (first_fit (next ∷ rows) fits))

-- A row with a number, which passes the old test and the new one or not: the number is at least the
-- least one if the row passed before, it is the least one if it passes now, and a row with the
-- least one passes still.
abbrev pub is_taken : ℕ → ℕ → Bool → Bool → Bool
is_taken least number old new =
    (not old || nat_le least number) && (not new || (number == least)) && (not (old && (number == least)) || new)

-- The same of each row.
abbrev pub are_taken : ℕ → Rows → List ℕ → (List Mark → Bool) → (List Mark → Bool) → Bool
are_taken least [] numbers old new = true
are_taken least (row ∷ rows) [] old new = true
are_taken least (row ∷ rows) (number ∷ numbers) old new =
    is_taken least number (old row) (new row) && are_taken least rows numbers old new

-- Whether a table is one of sides with one end.
abbrev pub is_single : Table → Bool
is_single Ready = true
is_single Resting = true
is_single Together = false
is_single Lossy = false
is_single OneOfTwo = false
is_single Filter = false
is_single Spent = false
