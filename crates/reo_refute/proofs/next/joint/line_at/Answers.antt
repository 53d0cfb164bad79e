use Rattle.std.proofs.Common.{◌≡◌, refl, inl, inr, true, false, ap, sym, ◌∙◌, subst}
use Rattle.reo_values.proofs.Sequences.{nil_of}
use Rattle.reo_net_base.specs.declared.joint.Joint.{Joint}
use Rattle.reo_net_base.specs.Net.{Net, net_of, side_at}
use Rattle.reo_net_base.specs.Wired.{IsEnd}
use Rattle.reo_joint_values.specs.Values.{Family, no_joint, giver_side, taker_side}
use Rattle.reo_refute_base.specs.Live.{live_at}
use Rattle.reo_refute_base.specs.Places.{IsAllowed}
use Rattle.reo_refute_live.specs.support.Families.{family_of}
use Rattle.reo_refute.specs.next.Next.{AreSupported, IsKept, LeadsOn}
use Rattle.reo_refute.proofs.next.Keeping.{matched_more, kept}
use Rattle.reo_refute.proofs.next.joint.line_at.Goals as goal

pub returns-then-not-has_live : goal.returns-then-not-has_live
returns-then-not-has_live g c = record {
  in_range = c.requires.joint;
  none = nil_of (live_at c.args.judged.now.lists.now (family_of c.args.live.now.table) c.args.joint) (λ some. let wrong : false ≡ true = sym c.if-not-has_live.true ∙ c.has_live.ensures.1 some in cc);
}

pub side_of-giver-requires : goal.side_of-giver-requires
side_of-giver-requires g c =
    let net : Net = net_of g.P.Primitive.behaviour c.args.judged.now.circuit.now in
    subst (λ (x : Joint). IsEnd net.primitives x.giver) (c.joint-ends.ensures no_joint) (c.known.ensures.wired.givers c.args.joint no_joint c.requires.joint)

pub side_of-taker-requires : goal.side_of-taker-requires
side_of-taker-requires g c =
    let net : Net = net_of g.P.Primitive.behaviour c.args.judged.now.circuit.now in
    subst (λ (x : Joint). IsEnd net.primitives x.taker) (c.joint-ends.ensures no_joint) (c.known.ensures.wired.takers c.args.joint no_joint c.requires.joint)

pub line_at_side-requires-clause-at : goal.line_at_side-requires-clause-at
line_at_side-requires-clause-at g c =
    let net : Net = net_of g.P.Primitive.behaviour c.args.judged.now.circuit.now in
    inl (ap (λ (x : Joint). side_at net x.giver) (c.joint-ends.ensures no_joint) ∙ sym c.side_of-giver.ensures.number)

pub line_at_side-requires-in-None-clause-at : goal.line_at_side-requires-in-None-clause-at
line_at_side-requires-in-None-clause-at g c =
    let net : Net = net_of g.P.Primitive.behaviour c.args.judged.now.circuit.now in
    inr (ap (λ (x : Joint). side_at net x.taker) (c.joint-ends.ensures no_joint) ∙ sym c.side_of-taker.ensures.number)

pub returns-in_ok-found-in-None : goal.returns-in_ok-found-in-None
returns-in_ok-found-in-None g c =
    let net : Net = net_of g.P.Primitive.behaviour c.args.judged.now.circuit.now in
    let f : Family = family_of c.args.live.now.table in
    let gives : giver_side net c.args.joint ≡ c.side_of-giver.result = ap (λ (x : Joint). side_at net x.giver) (c.joint-ends.ensures no_joint) ∙ sym c.side_of-giver.ensures.number in
    let takes : taker_side net c.args.joint ≡ c.side_of-taker.result = ap (λ (x : Joint). side_at net x.taker) (c.joint-ends.ensures no_joint) ∙ sym c.side_of-taker.ensures.number in
    let at_giver : AreSupported net c.args.judged.now.lists.now (IsAllowed net c.args.judged.now.turn c.args.judged.now.given.now c.args.judged.now.number) f c.args.joint c.side_of-giver.result = (rw c.in-None.is at c.in_ok-line.ensures) refl in
    matched_more (0 ≡ 0 → AreSupported net c.args.judged.now.lists.now (IsAllowed net c.args.judged.now.turn c.args.judged.now.given.now c.args.judged.now.number) f c.args.joint c.side_of-taker.result) (IsKept net c.args.judged.now.lists.now (IsAllowed net c.args.judged.now.turn c.args.judged.now.given.now c.args.judged.now.number) f c.args.joint)
    (LeadsOn net c.args.judged.now.lists.now (IsAllowed net c.args.judged.now.turn c.args.judged.now.given.now c.args.judged.now.number) f) c.in_ok-found-in-None.found c.in_ok-found-in-None.ensures
    (λ h. kept net c.args.judged.now.lists.now (IsAllowed net c.args.judged.now.turn c.args.judged.now.given.now c.args.judged.now.number) f c.args.joint c.side_of-giver.result c.side_of-taker.result gives takes (c.has_live.ensures.0 c.if-not-has_live.false) at_giver (h refl))
