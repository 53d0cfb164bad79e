use Rattle.reo_net_base.specs.Net.{net_of}
use Rattle.reo_refute_live.proofs.support.Adding.{AreSoFar}
use Rattle.reo_refute_live.proofs.support.tables.tables_of.Given as goal

-- The columns at the joints so far.
abbrev pub invariant-loop-joint : goal.invariant-loop-joint
invariant-loop-joint g l = AreSoFar (net_of g.P.Primitive.behaviour l.circuit) l.joint l.joint l.tables.items
