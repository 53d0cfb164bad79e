use Rattle.std.proofs.Common.{◌≡◌, map, take}
use Rattle.reo_draw_rounds.specs.Tables.{width_of}
use Rattle.reo_draw_rounds.proofs.table.widths_of.Given as goal

abbrev pub invariant-loop-column : goal.invariant-loop-column
invariant-loop-column l = l.widths ≡ map width_of (take l.column-index l.columns)
