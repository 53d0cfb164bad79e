-- The rows of a side, the jam row left out: each has a mark for each end of the side.
use Rattle.std.specs.Prelude.{ℕ, ◌+◌, ◌&&◌, ◌||◌, Bool, true, false, not, cond, List, [], ◌∷◌, ◌++◌, map, length, slice_index_or}
use Rattle.std.specs.List.{position_or_len}
use Rattle.std.specs.Borrow.{Bor}
use Rattle.reo_net_base.specs.declared.mark.Mark.{Mark}
use Rattle.reo_net_base.specs.declared.mark.Mark.TheVariants.{J}
use Rattle.reo_net_base.specs.Marks.{is_flow}

abbrev pub Rows : Type 0
Rows = List (List Mark)

-- The rows behind references.
abbrev pub now_of : List (Bor (List Mark)) → Rows
now_of rows = map (λ row. row.now) rows

-- How many rows there are, with the jam row, which is the last.
abbrev pub row_count : Rows → ℕ
row_count rows = length rows + 1

-- What a row says of an end. The jam row says jam of each.
abbrev pub mark_in : Rows → ℕ → ℕ → Mark
mark_in rows row end = slice_index_or (slice_index_or rows row []) end J

abbrev pub alike : Bool → Bool → Bool
alike true b = b
alike false b = not b

-- Whether two rows have the same flow set: the same ends marked F.
abbrev pub same_flow : List Mark → List Mark → Bool
same_flow [] [] = true
same_flow (m ∷ ms) (n ∷ ns) = alike (is_flow m) (is_flow n) && same_flow ms ns
same_flow _ _ = false

abbrev pub has_flow_of : Rows → List Mark → Bool
has_flow_of [] row = false
has_flow_of (other ∷ others) row = same_flow other row || has_flow_of others row

-- The rows whose flow set no earlier row has, where these stand before: the distinct flow sets, in row order.
abbrev pub new_rows : Rows → Rows → Rows
new_rows before [] = []
new_rows before (row ∷ rows) = cond (has_flow_of before row) (new_rows before rows) (row ∷ new_rows (row ∷ before) rows)

abbrev pub distinct_rows : Rows → Rows
distinct_rows rows = new_rows [] rows

-- The rule of classes: the place of a row's flow set among the distinct flow sets, and for the jam row their number.
abbrev pub classes_of : Rows → List ℕ
classes_of rows = map (λ row. position_or_len (same_flow row) (distinct_rows rows)) rows ++ length (distinct_rows rows) ∷ []

abbrev pub class_in : Rows → ℕ → ℕ
class_in rows row = slice_index_or (classes_of rows) row 0
