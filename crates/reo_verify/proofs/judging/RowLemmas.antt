-- Cells that are rows of their sides, and cells that are none.
use Rattle.std.proofs.Common.{◌≡◌, inl, inr, ℕ, ◌+◌, ◌<◌, ◌≤◌, Some}
use Rattle.std.specs.Prelude.{slice_get, List}
use Rattle.std.proofs.lemmas.Bool.{cases_lt}
use Rattle.reo_net_base.specs.Behaviour.{Behaviour}
use Rattle.reo_net_base.specs.Net.{Net, behaviour_at}
use Rattle.reo_trace.specs.declared.line.Cell.{Cell}
use Rattle.reo_trace.specs.declared.line.Cell.TheVariants.{Row, Jam}
use Rattle.reo_trace.specs.declared.line.Entry.{Entry}
use Rattle.reo_runs.specs.verdicts.Said.{cells_of, IsRowOf, HasRows, HasNoRow}
use Rattle.reo_verify.specs.judging.Entries.{AreRowCells, HasNoRowCell}

beyond : (rows row : ℕ) → (row + 1 < rows → ⊥) → rows ≤ row + 1
beyond rows row never = elim (cases_lt (row + 1) rows) [ inl lt ↦ absurd (never lt) | inr le ↦ le ]

-- A cell that is no row of its side.
pub no_cell : (b : Behaviour) (e : Entry) (side : ℕ) (cell : Cell) → slice_get (cells_of e) side ≡ Some cell → (IsRowOf (b.rows side) cell → ⊥) → HasNoRowCell b e
no_cell b e side (Row row) is never = record { side = side; row = row; cell_is = is; out = beyond (b.rows side) row never }
no_cell b e side Jam is never = absurd (never tt)

-- The entry of a primitive with such a cell.
pub no_row : (net : Net) (entries : List Entry) (i : ℕ) (e : Entry) → slice_get entries i ≡ Some e → HasNoRowCell (behaviour_at net.primitives i) e → HasNoRow net entries i
no_row net entries i e is out = record { entry = e; side = out.side; row = out.row; entry_is = is; cell_is = out.cell_is; out = out.out }

-- The entry of a primitive without such a cell.
pub all_rows : (net : Net) (entries : List Entry) (i : ℕ) (e : Entry) → slice_get entries i ≡ Some e → AreRowCells (behaviour_at net.primitives i) e → HasRows net entries i
all_rows net entries i e is are f side cell f_is cell_is =
    let same : e ≡ f = cc in
    are side cell (rw same cell_is)
