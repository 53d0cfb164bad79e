use Rattle.std.proofs.Common.{◌≡◌, ◌∙◌, ℕ, None, get_or, sym, below_more, arith}
use Rattle.std.proofs.lemmas.List.{get_or_default}
use Rattle.reo_net_base.specs.declared.joint.Joint.{Joint}
use Rattle.reo_net_base.specs.Net.{Net, net_of}
use Rattle.reo_net_base.specs.Colouring.{ItemFits}
use Rattle.reo_net.proofs.colouring.ItemLemmas.{joint_giver, joint_taker}
use Rattle.reo_checker.proofs.ExactLemmas.{not_fits}
use Rattle.reo_checker.proofs.items.item_fault.Goals as goal

pub returns-then-not-fits : goal.returns-then-not-fits
returns-then-not-fits g c =
    let net : Net = net_of g.P.Primitive.behaviour c.args.circuit.now in
    let read : get_or c.args.items.now c.loop-index.index None ≡ c.index-items-index.result = get_or_default c.args.items.now c.loop-index.index None c.index-items-index.result (omega (arith, c.requires.items)) ∙ sym c.index-items-index.is in
    record {
      in_range = omega arith;
      fails = λ d. rw (c.joint-joint.ensures d, read) (not_fits net c.args.rows.now c.args.items.now c.joint-joint.result c.index-items-index.result (λ (h : ItemFits net c.args.rows.now c.args.items.now c.joint-joint.result c.index-items-index.result). absurd (let yes = c.fits.ensures.1 h in let other = c.if-not-fits.true in cc)));
      before = c.loop-index.invariant;
    }

pub loop-index-preserved : goal.loop-index-preserved
loop-index-preserved g c = λ j d j_lt.
    let net : Net = net_of g.P.Primitive.behaviour c.args.circuit.now in
    let fit : ℕ → Type 0 = λ k. (e : Joint) → ItemFits net c.args.rows.now c.args.items.now (get_or net.joints k e) (get_or c.args.items.now k None) in
    let read : get_or c.args.items.now c.loop-index.index None ≡ c.index-items-index.result = get_or_default c.args.items.now c.loop-index.index None c.index-items-index.result (omega (arith, c.requires.items)) ∙ sym c.index-items-index.is in
    let here : fit c.loop-index.index = λ e. rw (c.joint-joint.ensures e, read) (c.fits.ensures.0 c.if-not-fits.false) in
    below_more fit c.loop-index.index (λ k h e. c.loop-index.invariant k e h) here j j_lt d

pub fits-requires-clause-giver : goal.fits-requires-clause-giver
fits-requires-clause-giver g c =
    let net : Net = net_of g.P.Primitive.behaviour c.args.circuit.now in
    rw (c.joint-joint.ensures c.joint-joint.result) at (joint_giver net c.known.ensures.wired c.loop-index.index c.joint-joint.result (omega arith))

pub fits-requires-clause-taker : goal.fits-requires-clause-taker
fits-requires-clause-taker g c =
    let net : Net = net_of g.P.Primitive.behaviour c.args.circuit.now in
    rw (c.joint-joint.ensures c.joint-joint.result) at (joint_taker net c.known.ensures.wired c.loop-index.index c.joint-joint.result (omega arith))
