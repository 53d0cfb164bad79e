use Rattle.reo_net_base.specs.Net.{net_of}
use Rattle.reo_side_tables.specs.Marks.{side_in, IsApartAt}
use Rattle.reo_side_tables.proofs.Growing.{AreBelow}
use Rattle.reo_side_tables.proofs.joints.apart_of.Given as goal

abbrev pub invariant-loop-row : goal.invariant-loop-row
invariant-loop-row g l = AreBelow (IsApartAt (net_of g.P.Primitive.behaviour l.circuit) l.side) (side_in (net_of g.P.Primitive.behaviour l.circuit) l.side).of.ends l.row l.lists
