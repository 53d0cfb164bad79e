use Rattle.std.proofs.Common.{◌∙◌, max}
use Rattle.reo_draw_rounds.proofs.Lists.{width_more}
use Rattle.reo_draw_rounds.proofs.table.width_of.Goals as goal

pub loop-cell-preserved : goal.loop-cell-preserved
loop-cell-preserved c =
    c.max-width.ensures ∙ (λ i. max (c.len.ensures i) (c.loop-cell.invariant i)) ∙ width_more c.args.column.now c.loop-cell.cell-index c.cell-item.result c.loop-cell-test.true c.cell-item.is
