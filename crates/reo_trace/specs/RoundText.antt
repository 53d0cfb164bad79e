-- The text of a round line.
use Rattle.std.specs.Prelude.{ℕ, Bool, true, false, List, [], ◌∷◌, ◌++◌, codes, Option, Some, None, slice_get}
use Rattle.std.specs.Fmt.{decimal}
use Rattle.reo_values.specs.ItemText.{text_of}
use Rattle.reo_values.specs.declared.value.Value.{Value}
use Rattle.reo_net_base.specs.declared.colouring.Move.{Move}
use Rattle.reo_net_base.specs.declared.port.Port.{Port}
use Rattle.reo_net_base.specs.declared.port.Way.{Way}
use Rattle.reo_net_base.specs.declared.port.Way.TheVariants.{In, Out}
use Rattle.reo_trace.specs.declared.line.Cell.{Cell}
use Rattle.reo_trace.specs.declared.line.Cell.TheVariants.{Row, Jam}
use Rattle.reo_trace.specs.declared.line.Entry.{Entry}
use Rattle.reo_trace.specs.declared.line.Entry.TheVariants.{One, Two}
use Rattle.reo_trace.specs.declared.line.RoundLine.{RoundLine}
use Rattle.reo_trace.specs.Spaced.{spaced}

-- The sign of a way: an item is written at an in port and taken at an out port.
abbrev pub sign_of : Way → List ℕ
sign_of In = codes "!"
sign_of Out = codes "?"

-- An item at a port: the port's name, the sign of its way, and the item's text.
abbrev pub flow_text : Option Port → Value → List ℕ
flow_text None item = []
flow_text (Some port) item = port.name ++ (sign_of port.way ++ text_of item port.kindred)

unfoldable pub move_text : List Port → Move → List ℕ
move_text ports m = flow_text (slice_get ports m.port) m.item

-- The moves of a round: idle where no end flowed, and a dash where ends flowed but no port.
abbrev pub moves_text : List Port → Bool → List Move → List ℕ
moves_text ports true moves = codes "idle"
moves_text ports false [] = codes "-"
moves_text ports false (m ∷ ms) = spaced (move_text ports) (m ∷ ms)

-- A row by its number, and the jam row by its letter.
abbrev pub cell_text : Cell → List ℕ
cell_text (Row row) = decimal row
cell_text Jam = codes "j"

-- The cells of a primitive, with a dot between two.
unfoldable pub entry_text : Entry → List ℕ
entry_text (One cell) = cell_text cell
entry_text (Two mouth tail) = cell_text mouth ++ (codes "." ++ cell_text tail)

-- A round line: the number of the round, its moves, and the entries of all primitives.
unfoldable pub round_text : List Port → RoundLine → List ℕ
round_text ports line =
    codes "round " ++ (decimal line.round ++ (codes ": " ++ (moves_text ports line.idle line.moves ++ (codes " | " ++ (spaced entry_text line.entries ++ codes "\n")))))
