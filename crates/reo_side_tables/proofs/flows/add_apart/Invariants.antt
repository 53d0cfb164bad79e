use Rattle.reo_net_base.specs.Net.{net_of}
use Rattle.reo_side_tables.specs.Flowing.{AreAdded}
use Rattle.reo_side_tables.proofs.Adding.{IsBelow}
use Rattle.reo_side_tables.proofs.flows.add_apart.Given as goal

abbrev pub invariant-loop-index : goal.invariant-loop-index
invariant-loop-index g l = AreAdded (net_of g.P.Primitive.behaviour l.circuit) l.side l.joint (IsBelow l.rows l.index) l.initial.flows l.flows
