use Rattle.reo_net_base.specs.Net.{net_of}
use Rattle.reo_refute_base.specs.Items.{AreVisited}
use Rattle.reo_refute_parts.specs.lists.Passes.{SoFar}
use Rattle.reo_refute_parts.specs.lists.Visits.{AreGood}
use Rattle.reo_refute_parts.proofs.lists.lists.pass.Given as goal

-- The joints so far are visited.
abbrev pub invariant-loop-joint : goal.invariant-loop-joint
invariant-loop-joint g l = record {
  visited : AreVisited (net_of g.P.Primitive.behaviour l.circuit) l.joint l.initial.lists.items l.lists.items;
  good : AreGood (net_of g.P.Primitive.behaviour l.circuit) l.lists.items;
  so_far : SoFar l.initial.lists.items l.lists.items l.found;
}
