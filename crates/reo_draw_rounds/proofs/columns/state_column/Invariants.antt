use Rattle.std.proofs.Common.{◌≡◌, take}
use Rattle.reo_draw_rounds.specs.Columns.{state_column}
use Rattle.reo_draw_rounds.proofs.columns.state_column.Given as goal

abbrev pub invariant-loop-line : goal.invariant-loop-line
invariant-loop-line l = l.column ≡ state_column (take l.line-index l.rounds)
