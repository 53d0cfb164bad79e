use Rattle.reo_net_base.specs.Net.{net_of}
use Rattle.reo_net_laws.specs.KnotLabels.{AreLabels, AreMembers, AreLoops}
use Rattle.reo_knots.proofs.links.find_links.Given as goal

-- The joints so far are linked.
abbrev pub invariant-loop-index : goal.invariant-loop-index
invariant-loop-index g l = record {
  members : AreMembers l.all.labels.items l.all.members.items;
  labels : AreLabels (net_of g.P.Primitive.behaviour l.circuit) l.index l.all.labels.items;
  loops : AreLoops (net_of g.P.Primitive.behaviour l.circuit) l.index l.loops;
}
