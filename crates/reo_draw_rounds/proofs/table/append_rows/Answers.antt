use Rattle.std.proofs.Common.{◌∙◌, ◌++◌, ap, codes, append_assoc}
use Rattle.reo_draw_rounds.specs.Tables.{cells_text}
use Rattle.reo_draw_rounds.proofs.Lists.{rows_more}
use Rattle.reo_draw_rounds.proofs.table.append_rows.Goals as goal

pub loop-row-preserved : goal.loop-row-preserved
loop-row-preserved c =
    rows_more c.args.columns.now c.loop-row.row c.args.text.now c.loop-row.text c.append.new.self c.loop-row.invariant
    (c.in_ok-append.ensures.ok ∙ ap (λ bytes. bytes ++ codes "\n") c.in_ok-append_cells.ensures ∙ append_assoc c.loop-row.text (cells_text c.loop-row.row c.args.columns.now) (codes "\n"))
