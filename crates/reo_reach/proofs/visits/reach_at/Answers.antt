use Rattle.std.proofs.Common.{◌≡◌, ◌<◌, ◌+◌, ℕ, List, length, subst, sym, arith}
use Rattle.reo_net_base.specs.Net.{Net, net_of}
use Rattle.reo_reach.specs.Supplied.{Supplied, AreShort, HasPlaces, OthersStay}
use Rattle.reo_reach.proofs.FilledLemmas.{AreFilled, more_places, more_others, more_short, more_filled, reached}
use Rattle.reo_reach.proofs.visits.reach_at.Goals as goal

pub loop-at-preserved : goal.loop-at-preserved
loop-at-preserved g c =
    let net : Net = net_of g.P.Primitive.behaviour c.args.circuit.now in
    let joints : List ℕ = c.args.joints.now in
    let at : ℕ = c.loop-at.at in
    let old : Supplied = c.loop-at.supply in
    let lt : at < length joints = omega arith in
    let it = c.in_ok-renew.ensures.renewed in
    record {
      places = subst (λ (s : Supplied). HasPlaces net s) (sym it.after) (more_places net joints c.requires.joints old c.loop-at.invariant.places at lt it.items);
      others = subst (λ (s : Supplied). OthersStay joints c.args.supply.now s) (sym it.after) (more_others net joints c.requires.joints old c.loop-at.invariant.places at lt it.items c.args.supply.now c.loop-at.invariant.others);
      short = λ first. subst (λ (s : Supplied). AreShort s) (sym it.after) (more_short net joints c.requires.joints old c.loop-at.invariant.places at lt it.items (c.loop-at.invariant.short first) it.made.short);
      filled = subst (λ (s : Supplied). AreFilled net joints (at + 1) s) (sym it.after) (more_filled net joints c.requires.joints old c.loop-at.invariant.places at lt it.items c.loop-at.invariant.filled it.made);
    }

pub returns-clause-reached : goal.returns-clause-reached
returns-clause-reached g c =
    let net : Net = net_of g.P.Primitive.behaviour c.args.circuit.now in
    let joints : List ℕ = c.args.joints.now in
    let last : c.loop-at.at ≡ length joints = omega arith in
    reached net joints c.requires.joints c.loop-at.supply (subst (λ (n : ℕ). AreFilled net joints n c.loop-at.supply) last c.loop-at.invariant.filled)
