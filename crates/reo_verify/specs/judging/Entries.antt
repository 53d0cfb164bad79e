-- The rows of the cells of an entry.
use Rattle.std.specs.Prelude.{ℕ, ◌-◌, ◌+◌, ◌≤◌, ◌≡◌, List, [], ◌∷◌, ◌++◌, Some, slice_get}
use Rattle.reo_net_base.specs.Behaviour.{Behaviour}
use Rattle.reo_trace.specs.declared.line.Cell.{Cell}
use Rattle.reo_trace.specs.declared.line.Cell.TheVariants.{Row, Jam}
use Rattle.reo_trace.specs.declared.line.Entry.{Entry}
use Rattle.reo_trace.specs.declared.line.Entry.TheVariants.{One, Two}
use Rattle.reo_runs.specs.verdicts.Said.{cells_of, IsRowOf}

-- Each cell of an entry is a row of its side.
abbrev pub AreRowCells : Behaviour → Entry → Type 0
AreRowCells b e = (side : ℕ) (cell : Cell) → slice_get (cells_of e) side ≡ Some cell → IsRowOf (b.rows side) cell

-- Some cell of an entry has a number that is no row before the jam row.
pub record HasNoRowCell (b : Behaviour) (e : Entry) : Type 0 where
  pub side : ℕ
  pub row : ℕ
  pub cell_is : slice_get (cells_of e) side ≡ Some (Row row)
  pub out : b.rows side ≤ row + 1

-- The row of a cell of a side with so many rows.
abbrev pub row_by : ℕ → Cell → ℕ
row_by rows (Row row) = row
row_by rows Jam = rows - 1

-- The rows of the cells of an entry.
abbrev pub rows_by : Behaviour → Entry → List ℕ
rows_by b (One cell) = row_by (b.rows 0) cell ∷ []
rows_by b (Two mouth tail) = row_by (b.rows 0) mouth ∷ row_by (b.rows 1) tail ∷ []

-- The rows of the cells of entries, each by its primitive.
abbrev pub rows_of : List Behaviour → List Entry → List ℕ
rows_of [] es = []
rows_of (b ∷ bs) [] = []
rows_of (b ∷ bs) (e ∷ es) = rows_by b e ++ rows_of bs es
