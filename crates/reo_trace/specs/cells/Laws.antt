-- Where cells stay right.
use Rattle.reo_net_base.specs.Net.{Net}
use Rattle.reo_net_base.specs.Shapes.{SameShapes}
use Rattle.reo_trace.specs.declared.cells.cells.Cells.{Cells}
use Rattle.reo_trace.specs.cells.Cells.{AreCells}

-- Cells of a circuit are those of each circuit of the same shape.
abbrev pub CellsStay : Type 0
CellsStay = (net other : Net) → SameShapes net.primitives other.primitives → (cells : Cells)
    → AreCells net cells → AreCells other cells
