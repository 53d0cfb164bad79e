use Rattle.reo_net_base.specs.Net.{net_of}
use Rattle.reo_side_tables.proofs.Found.{AreFound}
use Rattle.reo_side_tables.proofs.joints.joints_of.Given as goal

abbrev pub invariant-loop-end : goal.invariant-loop-end
invariant-loop-end g l = AreFound (net_of g.P.Primitive.behaviour l.circuit) l.ends l.side l.owner.primitive l.owner.side l.end l.joints
