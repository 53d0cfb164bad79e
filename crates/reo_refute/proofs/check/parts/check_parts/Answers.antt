use Rattle.std.proofs.Common.{refl, ◌≡◌, ◌≢◌, ◌≤◌, ◌+◌, ℕ, List, [], length, ap, arith}
use Rattle.std.proofs.lemmas.Bool.Decides.{nat_tests}
use Rattle.std.proofs.lemmas.List.{length-map, nil_from_length}
use Rattle.reo_net_base.specs.Net.{Net, net_of}
use Rattle.reo_net_base.specs.First.{Position, positions}
use Rattle.reo_refute_parts.specs.places.KeyPlaces.{position_of}
use Rattle.reo_refute.proofs.check.Taking.{passed_none, passed_both, parts_stop, all_read, end_stops}
use Rattle.reo_refute.proofs.check.parts.check_parts.Goals as goal

pub loop-number-init : goal.loop-number-init
loop-number-init g c =
    let net : Net = net_of g.P.Primitive.behaviour c.args.round.now.circuit.now in
    record {
      agreeing = c.in_ok-allowed.ensures c.args.round.now.turn c.args.round.now.given.now;
      closed = c.in_ok-live.ensures.closed;
      passed = passed_none net c.args.round.now.turn c.args.round.now.given.now c.args.round.now.lists.now 0 c.args.lines.now c.requires.short;
    }

pub returns-in-Err : goal.returns-in-Err
returns-in-Err g c =
    let net : Net = net_of g.P.Primitive.behaviour c.args.round.now.circuit.now in
    parts_stop net c.args.round.now.turn c.args.round.now.given.now c.args.round.now.lists.now c.loop-number.number c.args.lines.now c.loop-number.lines c.check_place.new.lines c.in-Err.stop c.loop-number.invariant.passed c.in-Err.ensures.taken

pub loop-number-preserved : goal.loop-number-preserved
loop-number-preserved g c =
    let net : Net = net_of g.P.Primitive.behaviour c.args.round.now.circuit.now in
    record {
      agreeing = c.in-Ok.ensures.agreeing;
      closed = c.in-Ok.ensures.closed;
      passed = passed_both net c.args.round.now.turn c.args.round.now.given.now c.args.round.now.lists.now 0 c.loop-number.number (c.loop-number.number + 1) c.args.lines.now c.loop-number.lines c.check_place.new.lines c.loop-number.invariant.passed c.in-Ok.ensures.taken;
    }

pub returns-then-is_done : goal.returns-then-is_done
returns-then-is_done g c =
    let net : Net = net_of g.P.Primitive.behaviour c.args.round.now.circuit.now in
    let past_all : length (positions net c.args.round.now.turn) ≤ c.loop-number.number =
    omega (arith, ap (λ (l : List Position). length l) c.requires.round.places, length-map c.args.round.now.places.now (position_of net c.args.round.now.turn), c.loop-number-test.false) in
    let none : c.loop-number.lines.left ≡ [] = nil_from_length c.loop-number.lines.left (grind (arith, nat_tests, c.is_done.ensures, c.if-is_done.true)) in
    all_read net c.args.round.now.turn c.args.round.now.given.now c.args.round.now.lists.now c.loop-number.number past_all c.args.lines.now c.loop-number.lines c.loop-number.invariant.passed none

pub returns : goal.returns
returns g c =
    let net : Net = net_of g.P.Primitive.behaviour c.args.round.now.circuit.now in
    let past_all : length (positions net c.args.round.now.turn) ≤ c.loop-number.number =
    omega (arith, ap (λ (l : List Position). length l) c.requires.round.places, length-map c.args.round.now.places.now (position_of net c.args.round.now.turn), c.loop-number-test.false) in
    let some : c.loop-number.lines.left ≢ [] = λ e. (let none : length c.loop-number.lines.left ≡ 0 = ap (λ (l : List ℕ). length l) e in grind (arith, nat_tests, c.is_done.ensures, c.if-is_done.false, none)) in
    end_stops net c.args.round.now.turn c.args.round.now.given.now c.args.round.now.lists.now c.loop-number.number past_all c.args.lines.now c.loop-number.lines (c.loop-number.lines.count + 1) c.loop-number.invariant.passed refl some
