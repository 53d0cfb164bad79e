use Rattle.std.proofs.Common.{◌≡◌, ◌∙◌, ◌<◌, ℕ, length, get_or, ap, sym, subst, arith}
use Rattle.std.proofs.lemmas.List.{get_or_default}
use Rattle.reo_net_base.specs.declared.joint.Joint.{Joint}
use Rattle.reo_net_base.specs.Net.{Net, net_of, side_at}
use Rattle.reo_net_base.specs.Wired.{IsEnd}
use Rattle.reo_joint_values.specs.Standing.{giver_of, no_joint}
use Rattle.reo_round.specs.Feeds.{IsCode}
use Rattle.reo_round.proofs.FeedLemmas.{fed_more}
use Rattle.reo_round.proofs.feeds.Feeds.new.Goals as goal

pub side_of-side-requires : goal.side_of-side-requires
side_of-side-requires g c =
    let net : Net = net_of g.P.Primitive.behaviour c.args.circuit.now in
    subst (λ (j : Joint). IsEnd net.primitives j.giver) (c.joint.ensures no_joint) (c.known.ensures.wired.givers c.loop-joint.joint no_joint (omega (arith, c.joint_count-joint-end.ensures)))

pub loop-joint-preserved : goal.loop-joint-preserved
loop-joint-preserved g c =
    let net : Net = net_of g.P.Primitive.behaviour c.args.circuit.now in
    let side : ℕ = c.side_of-side.result in
    let codes = c.in_ok-sides.ensures in
    let here : side ≡ side_at net (giver_of net c.loop-joint.joint) = c.side_of-side.ensures.number ∙ ap (λ (j : Joint). side_at net j.giver) (sym (c.joint.ensures no_joint)) in
    let s_in : side < length c.in_ok-sides.sides = omega (arith, c.side_of-side.ensures.in_range, codes.one_each) in
    let value : c.at.result.now ≡ get_or c.in_ok-sides.sides side 0 = c.at.ensures ∙ get_or_default c.in_ok-sides.sides side c.at.result.now 0 s_in in
    fed_more net c.loop-joint.joint c.at.result.now c.loop-joint.codes c.push.new.self c.in_ok-push.ensures.ok
    (subst (λ (s : ℕ). IsCode net (length net.joints) s c.at.result.now) here (subst (IsCode net (length net.joints) side) (sym value) (codes.each side c.side_of-side.ensures.in_range)))
    c.loop-joint.invariant
