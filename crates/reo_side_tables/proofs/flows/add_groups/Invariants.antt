use Rattle.std.proofs.Common.{◌<◌}
use Rattle.reo_net_base.specs.Net.{net_of}
use Rattle.reo_side_tables.specs.Marks.{group_in}
use Rattle.reo_side_tables.specs.Flowing.{AreAdded}
use Rattle.reo_side_tables.specs.Grouping.{IsAsSomeGroup}
use Rattle.reo_side_tables.proofs.flows.add_groups.Given as goal

abbrev pub invariant-loop-group : goal.invariant-loop-group
invariant-loop-group g l =
    AreAdded (net_of g.P.Primitive.behaviour l.circuit) l.side l.joint
    (λ row. (group_in (net_of g.P.Primitive.behaviour l.circuit) l.side row < l.group) × IsAsSomeGroup (net_of g.P.Primitive.behaviour l.circuit) l.side l.joint row)
    l.initial.flows l.flows
