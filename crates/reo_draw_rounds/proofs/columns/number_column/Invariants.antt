use Rattle.std.proofs.Common.{◌≡◌, take}
use Rattle.reo_draw_rounds.specs.Columns.{number_column}
use Rattle.reo_draw_rounds.proofs.columns.number_column.Given as goal

abbrev pub invariant-loop-line : goal.invariant-loop-line
invariant-loop-line l = l.column ≡ number_column (take l.line-index l.rounds)
