use Rattle.std.proofs.Common.{◌≡◌, ◌↔◌, IsTrue, get_or, sym, ◌∙◌, ap}
use Rattle.std.proofs.lemmas.Result.{on_ok_weaker, IfOk-weaker}
use Rattle.reo_net_base.specs.declared.joint.Joint.{Joint}
use Rattle.reo_net_base.specs.Net.{Net, net_of, side_at}
use Rattle.reo_net_laws.specs.Knots.{IsLoop}
use Rattle.reo_net_laws.proofs.KnotLinks.{linked_labels, closes_loop}
use Rattle.reo_knots.proofs.links.link.Goals as goal

pub side_of-giver-requires : goal.side_of-giver-requires
side_of-giver-requires g c = rw (c.joint-joint.ensures c.joint-joint.result) at (c.known.ensures.wired.givers c.args.index c.joint-joint.result c.requires.index)

pub side_of-taker-requires : goal.side_of-taker-requires
side_of-taker-requires g c = rw (c.joint-joint.ensures c.joint-joint.result) at (c.known.ensures.wired.takers c.args.index c.joint-joint.result c.requires.index)

pub returns-clause-labels : goal.returns-clause-labels
returns-clause-labels g c =
    let net : Net = net_of g.P.Primitive.behaviour c.args.circuit.now in
    let giver_is : (d : Joint) → side_at net (get_or net.joints c.args.index d).giver ≡ c.side_of-giver.result = λ d. ap (λ (j : Joint). side_at net j.giver) (c.joint-joint.ensures d) ∙ sym c.side_of-giver.ensures.number in
    let taker_is : (d : Joint) → side_at net (get_or net.joints c.args.index d).taker ≡ c.side_of-taker.result = λ d. ap (λ (j : Joint). side_at net j.taker) (c.joint-joint.ensures d) ∙ sym c.side_of-taker.ensures.number in
    on_ok_weaker c.join.result
    (linked_labels net c.known.ensures.wired c.args.index c.requires.index c.args.all.now.labels.items c.join.new.all.labels.items c.requires.labels c.side_of-giver.result c.side_of-taker.result
    c.side_of-giver.ensures.in_range c.side_of-taker.ensures.in_range giver_is taker_is c.joint-joint.result)
    c.join.ensures.labels

pub returns-clause-closes : goal.returns-clause-closes
returns-clause-closes g c =
    let net : Net = net_of g.P.Primitive.behaviour c.args.circuit.now in
    let giver_is : (d : Joint) → side_at net (get_or net.joints c.args.index d).giver ≡ c.side_of-giver.result = λ d. ap (λ (j : Joint). side_at net j.giver) (c.joint-joint.ensures d) ∙ sym c.side_of-giver.ensures.number in
    let taker_is : (d : Joint) → side_at net (get_or net.joints c.args.index d).taker ≡ c.side_of-taker.result = λ d. ap (λ (j : Joint). side_at net j.taker) (c.joint-joint.ensures d) ∙ sym c.side_of-taker.ensures.number in
    IfOk-weaker c.join.result _ (λ closes. IsTrue closes ↔ IsLoop net c.args.index)
    (closes_loop net c.known.ensures.wired c.args.index c.requires.index c.args.all.now.labels.items c.join.new.all.labels.items c.requires.labels c.side_of-giver.result c.side_of-taker.result
    c.side_of-giver.ensures.in_range c.side_of-taker.ensures.in_range giver_is taker_is)
    c.join.ensures.before
