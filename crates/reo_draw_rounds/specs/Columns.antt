-- The columns of a table.
use Rattle.std.specs.Prelude.{ℕ, List, ◌∷◌, map, codes}
use Rattle.std.specs.Fmt.{decimal}
use Rattle.reo_net_base.specs.declared.port.Port.{Port}
use Rattle.reo_trace.specs.declared.line.RoundLine.{RoundLine}
use Rattle.reo_draw_rounds.specs.Cells.{cell_text, state_text}
use Rattle.reo_draw_rounds.specs.Mapped.{mapped}

-- A column: what stands above it, and then a cell for each round.
abbrev pub number_column : List RoundLine → List (List ℕ)
number_column rounds = codes "round" ∷ map (λ (line : RoundLine). decimal line.round) rounds

abbrev pub state_column : List RoundLine → List (List ℕ)
state_column rounds = codes "state" ∷ map state_text rounds

abbrev pub port_column : List RoundLine → ℕ → Port → List (List ℕ)
port_column rounds number port = port.name ∷ map (cell_text port number) rounds

-- A column for each port.
abbrev pub port_columns : List RoundLine → List Port → List (List (List ℕ))
port_columns rounds ports = mapped (port_column rounds) 0 ports

-- The numbers of the rounds, the words for them, and a column for each port.
abbrev pub columns_of : List Port → List RoundLine → List (List (List ℕ))
columns_of ports rounds = number_column rounds ∷ state_column rounds ∷ port_columns rounds ports
