use Rattle.std.proofs.Common.{◌≡◌, ◌++◌}
use Rattle.reo_draw_rounds.specs.Tables.{rows_text}
use Rattle.reo_draw_rounds.proofs.table.append_rows.Given as goal

abbrev pub invariant-loop-row : goal.invariant-loop-row
invariant-loop-row l = l.text ≡ l.initial.text ++ rows_text l.columns l.row
