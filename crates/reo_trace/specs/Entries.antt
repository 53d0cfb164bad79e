-- What a round line says of a circuit's rows.
use Rattle.std.specs.Prelude.{ℕ, ◌+◌, ◌==◌, ◌||◌, Bool, not, if◌then◌else◌, List, length, map}
use Rattle.std.specs.List.{list_all, range_with_len}
use Rattle.reo_net_base.specs.declared.colouring.Chosen.{Chosen}
use Rattle.reo_net_base.specs.declared.colouring.Move.{Move}
use Rattle.reo_net_base.specs.declared.joint.Joint.{Joint}
use Rattle.reo_net_base.specs.Marks.{is_flow}
use Rattle.reo_net_base.specs.Behaviour.{Behaviour}
use Rattle.reo_net_base.specs.Net.{Net, behaviour_at, mark_at}
use Rattle.reo_net_base.specs.Step.{chosen_for}
use Rattle.reo_trace.specs.declared.line.Cell.{Cell}
use Rattle.reo_trace.specs.declared.line.Cell.TheVariants.{Row, Jam}
use Rattle.reo_trace.specs.declared.line.Entry.{Entry}
use Rattle.reo_trace.specs.declared.line.Entry.TheVariants.{One, Two}
use Rattle.reo_trace.specs.declared.line.RoundLine.{RoundLine}

-- The cell of a side: the last row of its table is the jam row.
abbrev pub cell_of : Behaviour → ℕ → ℕ → Cell
cell_of b side row = if (row + 1) == b.rows side then Jam else Row row

-- The entry of a primitive by the rows of its one or two sides.
abbrev pub entry_of : Behaviour → Chosen → Entry
entry_of b chosen = if b.sides == 2 then Two (cell_of b 0 chosen.first) (cell_of b 1 chosen.second) else One (cell_of b 0 chosen.first)

-- The entry of the primitive at a place.
unfoldable pub entry_at : Net → List ℕ → ℕ → Entry
entry_at net rows i = entry_of (behaviour_at net.primitives i) (chosen_for net rows i)

-- The entries of all primitives, in order.
abbrev pub entries_of : Net → List ℕ → List Entry
entries_of net rows = map (entry_at net rows) (range_with_len 0 (length net.primitives))

-- No end of a joint flows.
unfoldable pub is_still : Net → List ℕ → Joint → Bool
is_still net rows j = not (is_flow (mark_at net rows j.giver) || is_flow (mark_at net rows j.taker))

-- Nothing flows: no end of any joint.
abbrev pub is_idle : Net → List ℕ → Bool
is_idle net rows = list_all (is_still net rows) net.joints

-- The line of a round in which the sides had these rows and these items flowed at the ports.
abbrev pub line_for : Net → ℕ → List ℕ → List Move → RoundLine
line_for net round rows moves = record { round = round; idle = is_idle net rows; moves = moves; entries = entries_of net rows }
