use Rattle.reo_net_laws.proofs.KnotLabels.{more_alone}
use Rattle.reo_knots.proofs.labels.own_members.Goals as goal

pub loop-side-preserved : goal.loop-side-preserved
loop-side-preserved c = rw c.in_ok-push.ensures.ok (more_alone c.loop-side.members c.loop-side.side c.in_ok-sides.sides c.loop-side.invariant c.in_ok-sides.ensures)
