use Rattle.std.proofs.Common.{◌∙◌, ◌<◌, inl, inr, length, ap, sym, arith}
use Rattle.std.proofs.lemmas.List.{length-map}
use Rattle.reo_net_base.specs.Behaviour.{Behaviour}
use Rattle.reo_net_base.specs.Net.{Net, net_of}
use Rattle.reo_flows.proofs.stepping.MouthLemmas.{IsMouthEnd, mouth_end, mouth_found, mouth_below}
use Rattle.reo_flows.proofs.stepping.mouths.mouth_of.Goals.{then-side_of-eq0, else-side_of-eq0}
use Rattle.reo_flows.proofs.stepping.mouths.mouth_of.Goals as goal

pub returns-clause-mouth : goal.returns-clause-mouth
returns-clause-mouth g c =
    let net : Net = net_of g.P.Primitive.behaviour c.args.circuit.now in
    let i_in : c.args.index < length net.primitives = omega (arith, c.requires.index, length-map c.args.circuit.now.primitives g.P.Primitive.behaviour) in
    let side = c.side_of.ensures ∙ ap (λ (b : Behaviour). b.side_of 0) c.primitive.ensures.behaviour in
    let is : IsMouthEnd net c.args.index c.if-side_of-eq0.end = elim c.if-side_of-eq0.branch [
      | then-side_of-eq0 w ↦ mouth_end net c.known.ensures.wired c.args.index i_in c.requires.two c.if-side_of-eq0.end (inl (w.end-is, sym side ∙ w.if-side_of-eq0.true))
      | else-side_of-eq0 w ↦ mouth_end net c.known.ensures.wired c.args.index i_in c.requires.two c.if-side_of-eq0.end (inr (w.end-is, λ e. w.if-side_of-eq0.false (side ∙ e)))
    ] in
    c.joint_at.ensures ∙ mouth_found net c.known.ensures.wired c.args.ends.now c.requires.ends c.args.index i_in c.requires.two c.if-side_of-eq0.end is

pub returns-clause-in_range : goal.returns-clause-in_range
returns-clause-in_range g c =
    let net : Net = net_of g.P.Primitive.behaviour c.args.circuit.now in
    let i_in : c.args.index < length net.primitives = omega (arith, c.requires.index, length-map c.args.circuit.now.primitives g.P.Primitive.behaviour) in
    let side = c.side_of.ensures ∙ ap (λ (b : Behaviour). b.side_of 0) c.primitive.ensures.behaviour in
    let is : IsMouthEnd net c.args.index c.if-side_of-eq0.end = elim c.if-side_of-eq0.branch [
      | then-side_of-eq0 w ↦ mouth_end net c.known.ensures.wired c.args.index i_in c.requires.two c.if-side_of-eq0.end (inl (w.end-is, sym side ∙ w.if-side_of-eq0.true))
      | else-side_of-eq0 w ↦ mouth_end net c.known.ensures.wired c.args.index i_in c.requires.two c.if-side_of-eq0.end (inr (w.end-is, λ e. w.if-side_of-eq0.false (side ∙ e)))
    ] in
    let below = mouth_below net c.args.ends.now c.requires.ends c.args.index i_in c.if-side_of-eq0.end is in
    omega (arith, c.joint_at.ensures, below)
