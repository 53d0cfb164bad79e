use Rattle.reo_net_laws.specs.KnotGroups.{AreEmpty}
use Rattle.reo_knots.proofs.groups.no_groups.Given as goal

abbrev pub invariant-loop-index : goal.invariant-loop-index
invariant-loop-index l = AreEmpty l.groups l.index
