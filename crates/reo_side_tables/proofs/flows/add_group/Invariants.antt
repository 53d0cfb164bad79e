use Rattle.std.proofs.Common.{◌≢◌, Some}
use Rattle.reo_net_base.specs.Net.{net_of}
use Rattle.reo_side_tables.specs.Marks.{apart_in, end_at}
use Rattle.reo_side_tables.specs.Flowing.{AreAdded}
use Rattle.reo_side_tables.proofs.Adding.{IsBelow}
use Rattle.reo_side_tables.proofs.flows.add_group.Given as goal

abbrev pub invariant-loop-index : goal.invariant-loop-index
invariant-loop-index g l =
    AreAdded (net_of g.P.Primitive.behaviour l.circuit) l.side l.joint
    (λ row. IsBelow l.rows l.index row × (apart_in (net_of g.P.Primitive.behaviour l.circuit) l.side row ≢ Some (end_at (net_of g.P.Primitive.behaviour l.circuit) l.side l.joint).end))
    l.initial.flows l.flows
