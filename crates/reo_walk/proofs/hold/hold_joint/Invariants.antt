use Rattle.reo_net_base.specs.Net.{net_of}
use Rattle.reo_walk.specs.Holding.{IsHeldTo}
use Rattle.reo_walk.proofs.hold.hold_joint.Given as goal

abbrev pub invariant-loop-code : goal.invariant-loop-code
invariant-loop-code g l = IsHeldTo (net_of g.P.Primitive.behaviour l.circuit) l.place l.row l.joint l.code l.initial.alive l.alive l.loss
