use Rattle.std.proofs.Common.{◌≡◌, ◌++◌, take}
use Rattle.reo_draw_rounds.specs.Tables.{cells_text}
use Rattle.reo_draw_rounds.proofs.table.append_cells.Given as goal

abbrev pub invariant-loop-place : goal.invariant-loop-place
invariant-loop-place l = l.text ≡ l.initial.text ++ cells_text l.row (take l.place l.columns)
