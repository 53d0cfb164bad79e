-- What the entries of a line say of a circuit.
use Rattle.std.specs.Prelude.{ℕ, ◌+◌, ◌<◌, ◌≤◌, ◌≡◌, Bool, true, false, List, [], ◌∷◌, Some, length, slice_get}
use Rattle.std.specs.List.{flat_map, count_by}
use Rattle.reo_net_base.specs.Net.{Net, behaviour_at}
use Rattle.reo_net_base.specs.Sides.{AreRowsOf}
use Rattle.reo_trace.specs.declared.line.Cell.{Cell}
use Rattle.reo_trace.specs.declared.line.Cell.TheVariants.{Row, Jam}
use Rattle.reo_trace.specs.declared.line.Entry.{Entry}
use Rattle.reo_trace.specs.declared.line.Entry.TheVariants.{One, Two}
use Rattle.reo_trace.specs.declared.line.RoundLine.{RoundLine}
use Rattle.reo_trace.specs.Entries.{entries_of}

-- The cells of an entry, in the order of the sides.
abbrev pub cells_of : Entry → List Cell
cells_of (One cell) = cell ∷ []
cells_of (Two mouth tail) = mouth ∷ tail ∷ []

-- The entries are one for each primitive, each with a cell for each of its sides.
pub record AreCounted (net : Net) (entries : List Entry) : Type 0 where
  pub one_each : length entries ≡ length net.primitives
  pub cells : (i : ℕ) (e : Entry) → slice_get entries i ≡ Some e → length (cells_of e) ≡ (behaviour_at net.primitives i).sides

-- A cell of a side with so many rows: the jam row's letter, or the number of a row before the jam row, which is the last.
abbrev pub IsRowOf : ℕ → Cell → Type 0
IsRowOf rows (Row row) = row + 1 < rows
IsRowOf rows Jam = Unit {0}

-- Each cell of a primitive's entry is a row of its side.
abbrev pub HasRows : Net → List Entry → ℕ → Type 0
HasRows net entries i =
    (e : Entry) (side : ℕ) (cell : Cell) → slice_get entries i ≡ Some e → slice_get (cells_of e) side ≡ Some cell
    → IsRowOf ((behaviour_at net.primitives i).rows side) cell

-- Some cell of a primitive's entry has a number that is no row before the jam row.
pub record HasNoRow (net : Net) (entries : List Entry) (i : ℕ) : Type 0 where
  pub entry : Entry
  pub side : ℕ
  pub row : ℕ
  pub entry_is : slice_get entries i ≡ Some entry
  pub cell_is : slice_get (cells_of entry) side ≡ Some (Row row)
  pub out : (behaviour_at net.primitives i).rows side ≤ row + 1

-- The entries say these rows: they are rows of the circuit, and their entries are these.
pub record AreSaid (net : Net) (entries : List Entry) (rows : List ℕ) : Type 0 where
  pub in_tables : AreRowsOf net rows
  pub shown : entries_of net rows ≡ entries

-- How many cells of some lines are the letter of the jam row.
abbrev pub is_jam : Cell → Bool
is_jam (Row row) = false
is_jam Jam = true

abbrev pub jammed : List RoundLine → ℕ
jammed lines = count_by is_jam (flat_map cells_of (flat_map (λ (line : RoundLine). line.entries) lines))
