use Rattle.std.proofs.Common.{◌≡◌, ◌+◌, ℕ, List, length, ap, subst, arith}
use Rattle.std.proofs.lemmas.List.{length-map}
use Rattle.reo_net_base.specs.Net.{Net, net_of}
use Rattle.reo_net_base.specs.First.{Position, positions}
use Rattle.reo_refute_parts.specs.places.KeyPlaces.{position_of}
use Rattle.reo_refute.specs.proving.Making.{ArePartsMade}
use Rattle.reo_refute.proofs.proving.Writing.{none_made, both_made}
use Rattle.reo_refute.proofs.proving.parts.put_parts.Goals as goal

pub loop-number-init : goal.loop-number-init
loop-number-init g c =
    let net : Net = net_of g.P.Primitive.behaviour c.args.round.now.circuit.now in
    record {
      agreeing = c.in_ok-allowed.ensures c.args.round.now.turn c.args.round.now.given.now;
      closed = c.in_ok-scratch.ensures;
      made = none_made net c.args.round.now.turn c.args.round.now.given.now c.args.round.now.lists.now 0 c.args.out.now;
    }

pub loop-number-preserved : goal.loop-number-preserved
loop-number-preserved g c =
    let net : Net = net_of g.P.Primitive.behaviour c.args.round.now.circuit.now in
    record {
      agreeing = c.in_ok-put_place.ensures.agreeing;
      closed = c.in_ok-put_place.ensures.closed;
      made = both_made net c.args.round.now.turn c.args.round.now.given.now c.args.round.now.lists.now 0 c.loop-number.number (c.loop-number.number + 1) c.args.out.now c.loop-number.out c.put_place.new.out c.loop-number.invariant.made c.in_ok-put_place.ensures.made;
    }

pub returns : goal.returns
returns g c =
    let net : Net = net_of g.P.Primitive.behaviour c.args.round.now.circuit.now in
    let all : c.loop-number.number ≡ length (positions net c.args.round.now.turn) =
    omega (arith, ap (λ (l : List Position). length l) c.requires.round.places, length-map c.args.round.now.places.now (position_of net c.args.round.now.turn), c.loop-number-test.false, c.loop-number.auto.number-end) in
    subst (λ (n : ℕ). ArePartsMade net c.args.round.now.turn c.args.round.now.given.now c.args.round.now.lists.now 0 n c.args.out.now c.loop-number.out) all c.loop-number.invariant.made
