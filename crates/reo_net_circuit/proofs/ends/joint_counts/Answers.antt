use Rattle.std.proofs.Common.{◌<◌, List, length, map, arith, ◌∙◌, ap}
use Rattle.reo_net_base.specs.declared.joint.Joint.{Joint}
use Rattle.reo_net_base.specs.Behaviour.{Behaviour}
use Rattle.reo_net_circuit.proofs.CountLemmas.{counts_more}
use Rattle.reo_net_circuit.proofs.ReshapeLemmas.{whole_slice}
use Rattle.reo_net_circuit.proofs.ends.joint_counts.Goals as goal

pub count_joint-requires-clause-giver_end : goal.count_joint-requires-clause-giver_end
count_joint-requires-clause-giver_end g c =
    let d : Joint = c.joint_at-joint.result in
    let is = rw (c.joint_at-joint.ensures d) at (c.requires.joints.givers c.loop-index.index d (omega arith)) in
    rw (c.deref_mut.ensures.value, c.loop-index.invariant.row_length d.giver.primitive is.0) is.1

pub count_joint-requires-clause-taker : goal.count_joint-requires-clause-taker
count_joint-requires-clause-taker g c =
    let d : Joint = c.joint_at-joint.result in
    let is = rw (c.joint_at-joint.ensures d) at (c.requires.joints.takers c.loop-index.index d (omega arith)) in
    rw (c.deref_mut.ensures.value, c.loop-index.invariant.rows) is.0

pub count_joint-requires-clause-taker_end : goal.count_joint-requires-clause-taker_end
count_joint-requires-clause-taker_end g c =
    let d : Joint = c.joint_at-joint.result in
    let is = rw (c.joint_at-joint.ensures d) at (c.requires.joints.takers c.loop-index.index d (omega arith)) in
    rw (c.deref_mut.ensures.value, c.loop-index.invariant.row_length d.taker.primitive is.0) is.1

pub loop-index-preserved : goal.loop-index-preserved
loop-index-preserved g c =
    let d : Joint = c.joint_at-joint.result in
    let bs : List Behaviour = map g.P.Primitive.behaviour c.args.primitives.now in
    let lt : c.loop-index.index < length c.args.joints.now = omega arith in
    let old = c.loop-index.counts.items in
    let more = counts_more bs c.args.joints.now c.loop-index.index d c.deref_mut.result.now c.count_joint.new.counts lt (c.joint_at-joint.ensures d) (rw c.deref_mut.ensures.value c.loop-index.invariant) c.count_joint.ensures.same c.count_joint.ensures.counts in
    rw (whole_slice c.loop-index.counts.len c.count_joint.new.counts old c.loop-index.counts.ok.0 (c.count_joint.ensures.same.rows ∙ ap length c.deref_mut.ensures.value)) more
