use Rattle.std.proofs.Common.{ℕ, get_or, below_more, arith}
use Rattle.reo_net_base.specs.declared.joint.Joint.{Joint}
use Rattle.reo_net_base.specs.Net.{Net, net_of}
use Rattle.reo_net_base.specs.Colouring.{JointMatches}
use Rattle.reo_net.proofs.colouring.whole.all_match.Goals as goal

pub returns-then-not-matches_at : goal.returns-then-not-matches_at
returns-then-not-matches_at g c = (
  λ h. cc,
  λ all.
      let here = rw (c.joint.ensures c.joint.result) at (all c.loop-index.index c.joint.result (omega arith)) in
      rw c.if-not-matches_at.true at (c.matches_at.ensures.1 here),
)

pub loop-index-preserved : goal.loop-index-preserved
loop-index-preserved g c = λ j d j_lt.
    let net : Net = net_of g.P.Primitive.behaviour c.args.circuit.now in
    let match : ℕ → Type 0 = λ k. (e : Joint) → JointMatches net c.args.rows.now (get_or net.joints k e) in
    let here : match c.loop-index.index = λ e. rw (c.joint.ensures e) (c.matches_at.ensures.0 c.if-not-matches_at.false) in
    below_more match c.loop-index.index (λ k h e. c.loop-index.invariant k e h) here j j_lt d
