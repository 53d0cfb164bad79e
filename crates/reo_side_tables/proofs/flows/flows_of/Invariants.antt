use Rattle.reo_net_base.specs.Net.{net_of}
use Rattle.reo_side_tables.proofs.Adding.{AreFlowsBelow}
use Rattle.reo_side_tables.proofs.flows.flows_of.Given as goal

abbrev pub invariant-loop-index : goal.invariant-loop-index
invariant-loop-index g l = AreFlowsBelow (net_of g.P.Primitive.behaviour l.circuit) l.side l.index l.joints l.flows
