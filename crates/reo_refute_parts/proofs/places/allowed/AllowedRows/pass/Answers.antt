use Rattle.std.proofs.Common.{◌≡◌, ◌≢◌, ◌∙◌, ℕ, ◌<◌, List, [], length, get_or, ap, subst, arith}
use Rattle.std.proofs.lemmas.List.{get_or_default}
use Rattle.reo_net_base.specs.Net.{Net, net_of}
use Rattle.reo_net_base.specs.Sides.{side_count}
use Rattle.reo_refute_parts.specs.declared.places.place.SidePlace.{SidePlace}
use Rattle.reo_refute_parts.specs.places.AllowedRows.{AreMarked}
use Rattle.reo_refute_parts.proofs.places.AllowedLemmas.{number, place_in, passed}
use Rattle.reo_refute_parts.proofs.places.allowed.AllowedRows.pass.Goals as goal

pub row-requires-clause-side : goal.row-requires-clause-side
row-requires-clause-side g c =
    place_in (net_of g.P.Primitive.behaviour c.args.circuit.now) c.args.turn c.args.given.now c.args.number c.args.place c.requires.place

pub number_of-wanted-requires-clause-side : goal.number_of-wanted-requires-clause-side
number_of-wanted-requires-clause-side g c =
    place_in (net_of g.P.Primitive.behaviour c.args.circuit.now) c.args.turn c.args.given.now c.args.number c.args.place c.requires.place

pub returns : goal.returns
returns g c =
    let net : Net = net_of g.P.Primitive.behaviour c.args.circuit.now in
    let given : List ℕ = c.args.given.now in
    let p : ℕ = c.args.number in
    let place : SidePlace = c.args.place in
    let is = c.requires.place in
    let side_lt : place.side < side_count net = place_in net c.args.turn given p place is in
    let wanted : ℕ = c.number_of-wanted.result in
    let same : wanted ≡ number net c.args.turn given p place is (get_or given place.side 0) = c.number_of-wanted.ensures ∙ ap (number net c.args.turn given p place is) c.row.ensures.row in
    let old_is : c.at_mut.result.now ≡ get_or c.args.self.now.agreeing place.side [] =
    c.at_mut.ensures.value ∙ get_or_default c.args.self.now.agreeing place.side c.at_mut.result.now [] (omega (arith, side_lt, c.requires.agreeing.one_each)) in
    let marked : AreMarked (length (get_or c.args.self.now.agreeing place.side [])) (λ row. (get_or (get_or c.args.self.now.agreeing place.side []) row 0 ≢ 0) × (number net c.args.turn given p place is row ≡ wanted)) c.clear_others.new.rows =
    subst (λ (l : List ℕ). AreMarked (length l) (λ row. (get_or l row 0 ≢ 0) × (number net c.args.turn given p place is row ≡ wanted)) c.clear_others.new.rows) old_is c.clear_others.ensures in
    passed net c.args.turn given p place is wanted same c.args.self.now.agreeing c.requires.agreeing c.clear_others.new.rows marked
