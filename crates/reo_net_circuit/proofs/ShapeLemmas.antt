-- The tables of a circuit stay where the shape of its primitives stays.
use Rattle.std.proofs.Common.{◌≡◌, ℕ, ◌<◌, ◌==◌, ◌&&◌, Bool, List, length, map, ap, sym, ◌∙◌, arith}
use Rattle.std.proofs.lemmas.List.{length-map}
use Rattle.std.specs.List.{position_or_len}
use Rattle.reo_net_base.specs.declared.joint.Joint.{Joint}
use Rattle.reo_net_base.specs.Behaviour.{Behaviour}
use Rattle.reo_net_base.specs.Lawful.{SameShape, IsLawful}
use Rattle.reo_net_base.specs.Net.{behaviour_at}
use Rattle.reo_net_base.specs.Wired.{ArePorts}
use Rattle.reo_net_base.specs.Step.{is_mouth}
use Rattle.reo_net_circuit.specs.CircuitTables.{AreMouths, ArePortJoints}
use Rattle.reo_net_circuit.specs.declared.checked.CircuitTables.{CircuitTables}
use Rattle.reo_net_circuit.specs.Circuit.{IsCircuit}
use Rattle.reo_net_circuit.specs.Parts.{wiring_of}
use Rattle.reo_net_base.specs.Shapes.{SameShapes}
use Rattle.reo_net_circuit.proofs.ReshapeLemmas.{wired_same, laid_same, order_same, lawful_at}

-- The mouths stay where the shape stays.
pub mouth_same : (b d : Behaviour) (i : ℕ) → SameShape b d → is_mouth d i ≡ is_mouth b i
mouth_same b d i s = λ t j. ((s.sides t) == 2) && ((j.taker.primitive == i) && ((s.side_of j.taker.end t) == 0))

pub mouths_reshaped : (bs ds : List Behaviour) (joints : List Joint) (mouths : List ℕ) → SameShapes bs ds → AreMouths (record { primitives = bs; joints = joints }) mouths → AreMouths (record { primitives = ds; joints = joints }) mouths
mouths_reshaped bs ds joints mouths r are = record {
  one_each = are.one_each ∙ sym r.count;
  mouth = λ i lt.
      let i_in : i < length bs = omega (arith, r.count) in
      are.mouth i i_in ∙ ap (λ (test : Joint → Bool). position_or_len test joints) (sym (mouth_same (behaviour_at bs i) (behaviour_at ds i) i (r.same i i_in)));
}

pub port_joints_reshaped : (bs ds : List Behaviour) (joints : List Joint) (table : List ℕ) → SameShapes bs ds → ArePortJoints (record { primitives = bs; joints = joints }) table → ArePortJoints (record { primitives = ds; joints = joints }) table
port_joints_reshaped bs ds joints table r are = record {
  one_each = are.one_each ∙ sym r.count;
  joint = λ i lt. are.joint i (omega (arith, lt, r.count));
}

pub ports_reshaped : (bs ds : List Behaviour) (ports : ℕ) → SameShapes bs ds → ArePorts bs ports → ArePorts ds ports
ports_reshaped bs ds ports r are = record {
  within = omega (arith, are.within, r.count);
  port = λ i lt.
      let i_in : i < length bs = omega (arith, are.within) in
      let same = r.same i i_in in
      let port = are.port i lt in
      record { one_side = same.sides ∙ port.one_side; one_end = same.ends ∙ port.one_end };
}

-- What holds of a circuit stays where the shape of its primitives stays.
pub circuit_same : {P : Type 0} (behaviour : P → Behaviour) → ((p : P) → IsLawful (behaviour p)) → (old new : List P) (ports : ℕ) (joints : List Joint) (tables : CircuitTables)
    → SameShapes (map behaviour old) (map behaviour new) → IsCircuit behaviour (wiring_of old ports joints) tables → IsCircuit behaviour (wiring_of new ports joints) tables
circuit_same behaviour law old new ports joints tables r is =
    let bs : List Behaviour = map behaviour old in
    let ds : List Behaviour = map behaviour new in
    record {
      few_primitives = omega (arith, is.few_primitives, r.count, length-map old behaviour, length-map new behaviour);
      few_joints = is.few_joints;
      wired = wired_same bs ds r joints is.wired (lawful_at behaviour law new);
      are_ports = ports_reshaped bs ds ports r is.are_ports;
      ordered = order_same bs ds r joints is.wired tables.order is.ordered;
      laid_out = laid_same bs ds r tables.firsts tables.owners is.laid_out;
      mouths = mouths_reshaped bs ds joints tables.mouths r is.mouths;
      port_joints = port_joints_reshaped bs ds joints tables.port_joints r is.port_joints;
    }
