use Rattle.std.proofs.Common.{◌≢◌, ℕ, [], below_more}
use Rattle.reo_refute_base.specs.Live.{live_at}
use Rattle.reo_refute_live.specs.support.Families.{family_of}
use Rattle.reo_refute.specs.next.Next.{HasOne}
use Rattle.reo_refute.proofs.next.next.first_double.Goals as goal

pub loop-joint-preserved : goal.loop-joint-preserved
loop-joint-preserved c =
    below_more (λ (j : ℕ). live_at c.args.lists.now (family_of c.args.live.now.table) j ≢ [] → HasOne c.args.lists.now (family_of c.args.live.now.table) j) c.loop-joint.joint c.loop-joint.invariant
    (c.has_two.ensures.one c.if-has_two.false)
