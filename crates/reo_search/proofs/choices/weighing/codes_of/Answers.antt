use Rattle.std.proofs.Common.{◌+◌, sym, subst}
use Rattle.reo_search.specs.choices.Remaining.{AreCodes}
use Rattle.reo_search.proofs.choices.Remains.{codes_more}
use Rattle.reo_search.proofs.choices.weighing.codes_of.Goals as goal

pub loop-index-preserved : goal.loop-index-preserved
loop-index-preserved c =
    subst (AreCodes c.args.alive.now c.args.joints.now (c.loop-index.index + 1)) (sym c.in_ok-push.ensures.ok)
    (codes_more c.args.alive.now c.args.joints.now c.loop-index.index c.loop-index.left c.in_ok-codes_at.field-0 c.loop-index.invariant c.in_ok-codes_at.ensures)
