use Rattle.std.proofs.Common.{◌≡◌, ℕ, List, length, map, get_or, arith, ◌∙◌, sym, ap}
use Rattle.std.proofs.lemmas.List.{length-map, length-replicate}
use Rattle.reo_net_base.specs.declared.joint.Joint.{Joint}
use Rattle.reo_net_base.specs.Behaviour.{Behaviour}
use Rattle.reo_net_base.specs.Net.{end_of, is_at}
use Rattle.reo_net_circuit.proofs.ReshapeLemmas.{whole_slice}
use Rattle.reo_net_circuit.proofs.TableLemmas.{ports_more, ports_none, first_done}
use Rattle.reo_net_circuit.proofs.tables.port_table.Goals as goal

pub loop-index-init : goal.loop-index-init
loop-index-init g c = rw c.in_ok-table.ensures record {
  one_each = length-replicate (length c.args.primitives.now) (length c.args.joints.now);
  firsts = λ i lt. ports_none c.args.joints.now (length c.args.primitives.now) i (omega (arith, lt, length-replicate (length c.args.primitives.now) (length c.args.joints.now)));
}

pub note_joint-requires-clause-giver : goal.note_joint-requires-clause-giver
note_joint-requires-clause-giver g c =
    let d : Joint = c.joint_at-joint.result in
    let is = rw (c.joint_at-joint.ensures d) at (c.requires.givers c.loop-index.index d (omega arith)) in
    rw c.deref_mut.ensures.value (omega (arith, is.0, c.loop-index.invariant.one_each, length-map c.args.primitives.now g.P.Primitive.behaviour))

pub note_joint-requires-clause-taker : goal.note_joint-requires-clause-taker
note_joint-requires-clause-taker g c =
    let d : Joint = c.joint_at-joint.result in
    let is = rw (c.joint_at-joint.ensures d) at (c.requires.takers c.loop-index.index d (omega arith)) in
    rw c.deref_mut.ensures.value (omega (arith, is.0, c.loop-index.invariant.one_each, length-map c.args.primitives.now g.P.Primitive.behaviour))

pub loop-index-preserved : goal.loop-index-preserved
loop-index-preserved g c =
    let d : Joint = c.joint_at-joint.result in
    let old : List ℕ = c.loop-index.table.items in
    let new : List ℕ = c.note_joint.new.table in
    let same : length new ≡ length old = c.note_joint.auto.table ∙ ap length c.deref_mut.ensures.value in
    let noted = rw c.deref_mut.ensures.value at c.note_joint.ensures in
    let more = ports_more c.args.joints.now c.loop-index.index d old new (omega arith) c.joint_at-joint.ensures c.loop-index.invariant.firsts noted in
    rw (whole_slice c.loop-index.table.len new old c.loop-index.table.ok.0 same) record {
      one_each = same ∙ c.loop-index.invariant.one_each;
      firsts = λ i lt. more i (omega (arith, same));
    }

pub returns : goal.returns
returns g c =
    let bs : List Behaviour = map g.P.Primitive.behaviour c.args.primitives.now in
    let count : length bs ≡ length c.args.primitives.now = length-map c.args.primitives.now g.P.Primitive.behaviour in
    let d : Joint = record { giver = record { primitive = 0; end = 0 }; taker = record { primitive = 0; end = 0 } } in
    let end : c.loop-index.index ≡ length c.args.joints.now = omega arith in
    rw c.from_vec.ensures record {
      one_each = c.loop-index.invariant.one_each ∙ sym count;
      joint = λ i lt. sym (first_done (is_at (end_of i 0)) c.args.joints.now (get_or c.loop-index.table.items i 0) d (rw end at (c.loop-index.invariant.firsts i (omega (arith, count, c.loop-index.invariant.one_each)))));
    }
