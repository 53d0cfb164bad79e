use Rattle.std.proofs.Common.{ℕ, ◌<◌, map, get_or}
use Rattle.reo_net_base.specs.declared.joint.Joint.{Joint}
use Rattle.reo_net_base.specs.Wired.{IsEnd}
use Rattle.reo_net_circuit.proofs.parts.are_joints.Given as goal

abbrev pub invariant-loop-index : goal.invariant-loop-index
invariant-loop-index g l = record {
  givers : (k : ℕ) (d : Joint) → k < l.index → IsEnd (map g.P.Primitive.behaviour l.primitives) (get_or l.joints k d).giver;
  takers : (k : ℕ) (d : Joint) → k < l.index → IsEnd (map g.P.Primitive.behaviour l.primitives) (get_or l.joints k d).taker;
}
