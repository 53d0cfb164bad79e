use Rattle.std.proofs.Common.{◌∙◌, ◌++◌, ◌∷◌, [], sym}
use Rattle.reo_draw_rounds.specs.Losses.{loses_at}
use Rattle.reo_draw_rounds.proofs.Lists.{mapped_more}
use Rattle.reo_draw_rounds.proofs.losses.losses_of.Goals as goal

pub loop-number-preserved : goal.loop-number-preserved
loop-number-preserved c =
    c.in_ok-push.ensures.ok ∙ (λ i. c.loop-number.invariant i ++ c.loses_at.ensures i ∷ [])
    ∙ sym (mapped_more (loses_at c.args.entries.now) c.args.kinds.now c.loop-number.number c.index-kinds-number.result c.loop-number-test.true c.index-kinds-number.is)
