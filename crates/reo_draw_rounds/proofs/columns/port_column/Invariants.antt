use Rattle.std.proofs.Common.{◌≡◌, take}
use Rattle.reo_draw_rounds.specs.Columns.{port_column}
use Rattle.reo_draw_rounds.proofs.columns.port_column.Given as goal

abbrev pub invariant-loop-line : goal.invariant-loop-line
invariant-loop-line l = l.column ≡ port_column (take l.line-index l.rounds) l.number l.port
