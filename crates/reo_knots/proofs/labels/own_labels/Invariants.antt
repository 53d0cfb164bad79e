use Rattle.reo_net_laws.specs.KnotLabels.{AreOwn}
use Rattle.reo_knots.proofs.labels.own_labels.Given as goal

abbrev pub invariant-loop-side : goal.invariant-loop-side
invariant-loop-side l = AreOwn l.labels l.side
