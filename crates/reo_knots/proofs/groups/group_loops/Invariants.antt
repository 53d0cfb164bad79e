use Rattle.reo_net_base.specs.Net.{net_of}
use Rattle.reo_net_laws.specs.KnotGroups.{AreLoopsBelow}
use Rattle.reo_knots.proofs.groups.group_loops.Given as goal

abbrev pub invariant-loop-index : goal.invariant-loop-index
invariant-loop-index g l = AreLoopsBelow (net_of g.P.Primitive.behaviour l.circuit) l.numbers l.loops l.index l.groups.items l.count
