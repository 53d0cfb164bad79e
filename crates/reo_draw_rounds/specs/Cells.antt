-- What stands in the cells of a table.
use Rattle.std.specs.Prelude.{ℕ, ◌==◌, ◌||◌, Bool, true, false, Option, Some, None, List, codes, find}
use Rattle.std.specs.List.{list_any}
use Rattle.reo_values.specs.ItemText.{text_of}
use Rattle.reo_net_base.specs.declared.colouring.Move.{Move}
use Rattle.reo_net_base.specs.declared.port.Port.{Port}
use Rattle.reo_trace.specs.declared.line.Cell.{Cell}
use Rattle.reo_trace.specs.declared.line.Cell.TheVariants.{Row, Jam}
use Rattle.reo_trace.specs.declared.line.Entry.{Entry}
use Rattle.reo_trace.specs.declared.line.Entry.TheVariants.{One, Two}
use Rattle.reo_trace.specs.declared.line.RoundLine.{RoundLine}

abbrev pub is_jam : Cell → Bool
is_jam (Row row) = false
is_jam Jam = true

abbrev pub is_jammed : Entry → Bool
is_jammed (One cell) = is_jam cell
is_jammed (Two mouth tail) = is_jam mouth || is_jam tail

-- Some primitive jams.
abbrev pub are_jammed : List Entry → Bool
are_jammed entries = list_any is_jammed entries

-- The word for a round, by whether it was idle and whether something jams.
abbrev pub state_by : Bool → Bool → List ℕ
state_by false false = codes "flow"
state_by false true = codes "flow,jam"
state_by true false = codes "idle"
state_by true true = codes "jam"

abbrev pub state_text : RoundLine → List ℕ
state_text line = state_by line.idle (are_jammed line.entries)

-- What moved at the port of a number, if something did.
abbrev pub move_at : List Move → ℕ → Option Move
move_at moves number = find (λ (m : Move). m.port == number) moves

-- An item at a port, or a dot where none moved.
abbrev pub moved_text : Port → Option Move → List ℕ
moved_text port None = codes "."
moved_text port (Some m) = text_of m.item port.kindred

-- The cell of a port in a round.
abbrev pub cell_text : Port → ℕ → RoundLine → List ℕ
cell_text port number line = moved_text port (move_at line.moves number)
