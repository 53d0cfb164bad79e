use Rattle.std.proofs.Common.{◌≡◌, take}
use Rattle.reo_draw_rounds.specs.Tables.{width_of}
use Rattle.reo_draw_rounds.proofs.table.width_of.Given as goal

abbrev pub invariant-loop-cell : goal.invariant-loop-cell
invariant-loop-cell l = l.width ≡ width_of (take l.cell-index l.column)
