use Rattle.reo_net_base.specs.Net.{net_of}
use Rattle.reo_side_tables.specs.Marks.{groups_in}
use Rattle.reo_side_tables.specs.Grouping.{IsOfGroup}
use Rattle.reo_side_tables.proofs.Growing.{AreBelow}
use Rattle.reo_side_tables.proofs.flows.rows_by_group.Given as goal

abbrev pub invariant-loop-row : goal.invariant-loop-row
invariant-loop-row g l = AreBelow (IsOfGroup (net_of g.P.Primitive.behaviour l.circuit) l.side) (groups_in (net_of g.P.Primitive.behaviour l.circuit) l.side) l.row l.lists
