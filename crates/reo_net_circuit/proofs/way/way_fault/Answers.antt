-- What the loop has found of the joint that it is at.
use Rattle.std.proofs.Common.{◌∙◌, inl, inr, ℕ, map, get_or, sym, arith, below_more}
use Rattle.reo_net_base.specs.Net.{Net}
use Rattle.reo_net_circuit.specs.Fault.{GoesRight}
use Rattle.reo_net_circuit.proofs.way.way_fault.Goals as goal
use Rattle.reo_net_circuit.proofs.way.way_fault.Goals.{then-giver-via-then-giver, then-giver-via-else-giver+then-not-taker}

pub returns-then-giver : goal.returns-then-giver
returns-then-giver g c =
    let at = c.joint_at-joint.ensures in
    let giver = rw c.primitive_at.ensures at c.takes_in-giver.ensures in
    let taker = rw c.primitive_at-in-loop-index.ensures at c.takes_in-taker.ensures in
    record {
      in_range = omega arith;
      wrong = λ d. rw (at d) (elim c.then-giver.branch [
        | then-giver-via-then-giver w ↦ inl (sym giver ∙ w.if-giver.true)
        | then-giver-via-else-giver+then-not-taker w ↦ inr (sym taker ∙ w.if-not-taker.true)
      ]);
      before = c.loop-index.invariant;
    }

pub loop-index-preserved : goal.loop-index-preserved
loop-index-preserved g c =
    let net : Net = record { primitives = map g.P.Primitive.behaviour c.args.primitives.now; joints = c.args.joints.now } in
    let at = c.joint_at-joint.ensures in
    let giver = rw c.primitive_at.ensures at c.takes_in-giver.ensures in
    let taker = rw c.primitive_at-in-loop-index.ensures at c.takes_in-taker.ensures in
    λ k d lt. below_more (λ (i : ℕ). GoesRight net (get_or c.args.joints.now i d)) c.loop-index.index
    (λ i i_lt. c.loop-index.invariant i d i_lt)
    (rw (at d) record { gives = sym giver ∙ c.if-giver.false; takes = sym taker ∙ c.if-not-taker.false }) k lt
