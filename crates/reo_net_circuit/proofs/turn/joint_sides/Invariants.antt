use Rattle.std.proofs.Common.{◌≡◌, ℕ, ◌<◌, length, map, take, get_or}
use Rattle.reo_net_base.specs.declared.joint.Joint.{Joint}
use Rattle.reo_net_base.specs.Net.{net_of, side_at}
use Rattle.reo_net_circuit.specs.Parts.{wiring_of}
use Rattle.reo_net_circuit.proofs.turn.joint_sides.Given as goal

abbrev pub invariant-loop-index : goal.invariant-loop-index
invariant-loop-index g l = record {
  from : l.from ≡ map (λ (j : Joint). side_at (net_of g.P.Primitive.behaviour (wiring_of l.primitives 0 l.joints)) j.giver) (take l.index l.joints);
  to : l.to ≡ map (λ (j : Joint). side_at (net_of g.P.Primitive.behaviour (wiring_of l.primitives 0 l.joints)) j.taker) (take l.index l.joints);
  from_range : (k : ℕ) → k < length l.from → get_or l.from k 0 < l.sides;
  to_range : (k : ℕ) → k < length l.to → get_or l.to k 0 < l.sides;
}
