use Rattle.std.proofs.Common.{◌≡◌, ◌∷◌, take}
use Rattle.reo_draw_rounds.specs.Columns.{number_column, state_column, port_columns}
use Rattle.reo_draw_rounds.proofs.columns.columns_of.Given as goal

abbrev pub invariant-loop-number : goal.invariant-loop-number
invariant-loop-number l = l.columns ≡ number_column l.rounds ∷ state_column l.rounds ∷ port_columns l.rounds (take l.number l.ports)
