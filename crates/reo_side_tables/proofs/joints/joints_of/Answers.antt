use Rattle.std.proofs.Common.{◌≡◌, ◌<◌, ◌+◌, length, sym, ◌∙◌, ap, subst, arith}
use Rattle.std.proofs.lemmas.List.{length-map}
use Rattle.reo_net_base.specs.Behaviour.{Behaviour}
use Rattle.reo_net_base.specs.Net.{Net, net_of, behaviour_at}
use Rattle.reo_side_tables.proofs.Found.{AreFound, found_more, found_skip, all_found}
use Rattle.reo_side_tables.proofs.joints.joints_of.Goals as goal
use Rattle.reo_side_tables.proofs.joints.joints_of.Goals.{then-side_of-owner+in_ok-push, else-side_of-owner}

pub loop-end-preserved : goal.loop-end-preserved
loop-end-preserved g c =
    let net : Net = net_of g.P.Primitive.behaviour c.args.circuit.now in
    let i_in : c.owner-owner.result.primitive < length net.primitives = omega (arith, length-map c.args.circuit.now.primitives g.P.Primitive.behaviour, c.owner-owner.ensures.primitive) in
    let is : g.P.Primitive.behaviour c.primitive-primitive.result.now ≡ behaviour_at net.primitives c.owner-owner.result.primitive = c.primitive-primitive.ensures.behaviour in
    let lt : c.loop-end.end < (behaviour_at net.primitives c.owner-owner.result.primitive).ends = subst (λ (b : Behaviour). c.loop-end.end < b.ends) is (omega (arith, c.ends-end-end.ensures)) in
    let side_is : c.side_of.result ≡ (behaviour_at net.primitives c.owner-owner.result.primitive).side_of c.loop-end.end = c.side_of.ensures ∙ ap (λ (b : Behaviour). b.side_of c.loop-end.end) is in
    elim c.if-side_of-owner.branch [
      | then-side_of-owner+in_ok-push w ↦
          subst (AreFound net c.args.ends.now c.args.side c.owner-owner.result.primitive c.owner-owner.result.side (c.loop-end.end + 1)) (sym w.joints-is)
          (subst (AreFound net c.args.ends.now c.args.side c.owner-owner.result.primitive c.owner-owner.result.side (c.loop-end.end + 1)) (sym w.in_ok-push.ensures.ok)
          (found_more net c.known.ensures.wired c.args.ends.now c.requires.ends c.args.side c.owner-owner.result.primitive c.owner-owner.result.side i_in c.owner-owner.ensures.side c.owner-owner.ensures.place
          c.loop-end.end w.joint_at.result c.loop-end.joints lt (sym side_is ∙ w.if-side_of-owner.true) w.joint_at.ensures c.loop-end.invariant))
      | else-side_of-owner w ↦
          subst (AreFound net c.args.ends.now c.args.side c.owner-owner.result.primitive c.owner-owner.result.side (c.loop-end.end + 1)) (sym w.joints-is)
          (found_skip net c.known.ensures.wired c.args.ends.now c.requires.ends c.args.side c.owner-owner.result.primitive c.owner-owner.result.side i_in c.owner-owner.ensures.side c.owner-owner.ensures.place
          c.loop-end.end c.loop-end.joints (λ h. w.if-side_of-owner.false (side_is ∙ h)) c.loop-end.invariant)
    ]

pub returns-clause-joints : goal.returns-clause-joints
returns-clause-joints g c =
    let net : Net = net_of g.P.Primitive.behaviour c.args.circuit.now in
    let i_in : c.owner-owner.result.primitive < length net.primitives = omega (arith, length-map c.args.circuit.now.primitives g.P.Primitive.behaviour, c.owner-owner.ensures.primitive) in
    let last : c.loop-end.end ≡ (g.P.Primitive.behaviour c.primitive-primitive.result.now).ends = omega (arith, c.ends-end-end.ensures) in
    all_found net c.known.ensures.wired c.args.ends.now c.requires.ends c.args.side c.owner-owner.result.primitive c.owner-owner.result.side i_in c.owner-owner.ensures.side c.owner-owner.ensures.place
    c.loop-end.end c.loop-end.joints (last ∙ ap (λ (b : Behaviour). b.ends) c.primitive-primitive.ensures.behaviour) c.loop-end.invariant
