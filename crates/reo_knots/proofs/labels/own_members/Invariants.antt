use Rattle.reo_net_laws.specs.KnotLabels.{AreOwnMembers}
use Rattle.reo_knots.proofs.labels.own_members.Given as goal

abbrev pub invariant-loop-side : goal.invariant-loop-side
invariant-loop-side l = AreOwnMembers l.members l.side
