-- The table of what moved at the ports of a circuit.
use Rattle.std.specs.Prelude.{ℕ, ◌+◌, ◌-◌, ◌++◌, List, [], ◌∷◌, length, max, replicate, codes, slice_index_or}
use Rattle.std.specs.List.{flat_map, range_with_len}
use Rattle.reo_net_base.specs.declared.port.Port.{Port}
use Rattle.reo_trace.specs.Spaced.{spaced}
use Rattle.reo_trace.specs.EndingText.{ending_text}
use Rattle.reo_trace_reader.specs.declared.texts.trace.Trace.{Trace}
use Rattle.reo_draw_rounds.specs.Columns.{columns_of}

-- A column is as wide as its longest cell.
abbrev pub width_of : List (List ℕ) → ℕ
width_of [] = 0
width_of (cell ∷ cells) = max (length cell) (width_of cells)

abbrev pub cell_at : List (List ℕ) → ℕ → List ℕ
cell_at column row = slice_index_or column row []

-- A cell of a column at its right side, behind spaces.
abbrev pub padded : ℕ → List (List ℕ) → List ℕ
padded row column = replicate (width_of column - length (cell_at column row)) 32 ++ cell_at column row

-- The cells of a row, with one space between each two.
abbrev pub cells_text : ℕ → List (List (List ℕ)) → List ℕ
cells_text row columns = spaced (padded row) columns

-- The line of a row.
abbrev pub row_text : List (List (List ℕ)) → ℕ → List ℕ
row_text columns row = cells_text row columns ++ codes "\n"

-- The lines of so many rows.
abbrev pub rows_text : List (List (List ℕ)) → ℕ → List ℕ
rows_text columns count = flat_map (row_text columns) (range_with_len 0 count)

-- The table of a trace: the names of the columns, a line for each round, and how the run ended.
abbrev pub table_text : List Port → Trace → List ℕ
table_text ports trace = rows_text (columns_of ports trace.rounds) (length trace.rounds + 1) ++ ending_text trace.ending
