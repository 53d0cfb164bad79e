use Rattle.std.proofs.Common.{◌≡◌, ℕ, List, sym, ◌∙◌, subst}
use Rattle.reo_net_base.specs.Net.{Net, net_of}
use Rattle.reo_rows.specs.Sets.{family_of, names_of}
use Rattle.reo_propagate.specs.Queues.{among}
use Rattle.reo_propagate.specs.ListedSets.{listed}
use Rattle.reo_walk.specs.declared.place.KeyPlace.{KeyPlace}
use Rattle.reo_walk.specs.Places.{places_in}
use Rattle.reo_walk.specs.Settling.{IsFirstWith}
use Rattle.reo_walk.proofs.Knotted.{AllOf, all_places}
use Rattle.reo_walk.proofs.Listing.{knot_among, among_real, each_real, some, one_alive, none, in_tables, is_first}
use Rattle.reo_walk.proofs.arranging.arrange_by.Goals as goal

pub places_of-requires : goal.places_of-requires
places_of-requires g c =
    each_real (net_of g.P.Primitive.behaviour c.args.basis.now.circuit.now) c.args.knots.now c.args.knot c.sides-sides.result.now c.requires.knots c.requires.knot c.sides-sides.ensures

pub first_by-requires-clause-knot : goal.first_by-requires-clause-knot
first_by-requires-clause-knot g c =
    knot_among (net_of g.P.Primitive.behaviour c.args.basis.now.circuit.now) c.args.knots.now c.args.knot c.sides-sides.result.now c.requires.knots c.requires.knot c.sides-sides.ensures

pub first_by-requires-clause-sides : goal.first_by-requires-clause-sides
first_by-requires-clause-sides g c =
    among_real (net_of g.P.Primitive.behaviour c.args.basis.now.circuit.now) c.args.knots.now c.args.knot c.sides-sides.result.now c.requires.knots c.requires.knot c.sides-sides.ensures

pub first_by-requires-clause-some_side : goal.first_by-requires-clause-some_side
first_by-requires-clause-some_side g c =
    some (net_of g.P.Primitive.behaviour c.args.basis.now.circuit.now) c.args.knots.now c.args.knot c.sides-sides.result.now c.requires.knots c.requires.knot c.sides-sides.ensures

pub first_by-requires-clause-places : goal.first_by-requires-clause-places
first_by-requires-clause-places g c =
    let net : Net = net_of g.P.Primitive.behaviour c.args.basis.now.circuit.now in
    let are : c.as_slice.result.now ≡ places_in net c.sides-sides.result.now = c.as_slice.ensures ∙ c.in_ok-places.ensures in
    subst (AllOf c.sides-sides.result.now) (sym are) (all_places net c.sides-sides.result.now)

pub first_by-requires-clause-one : goal.first_by-requires-clause-one
first_by-requires-clause-one g c =
    let net : Net = net_of g.P.Primitive.behaviour c.args.basis.now.circuit.now in
    let numbers = c.requires.numbers in
    one_alive net c.args.knots.now c.args.knot c.sides-sides.result.now c.requires.knots c.requires.knot c.sides-sides.ensures
    c.known.ensures.wired _ _ c.args.basis.now.items.now c.in_ok-state.state.alive c.in_ok-state.ensures.search.ready (listed c.args.sets.now.values) c.in_ok-state.ensures.values numbers c.requires.one

pub returns-in-None : goal.returns-in-None
returns-in-None g c =
    let net : Net = net_of g.P.Primitive.behaviour c.args.basis.now.circuit.now in
    let numbers = c.requires.numbers in
    let found = rw (c.in-None.is) at c.in_ok-first_by.ensures.first in
    record {
      first = none net c.args.knots.now c.args.knot c.sides-sides.result.now c.requires.knots c.requires.knot c.sides-sides.ensures
          c.known.ensures.wired _ _ c.args.basis.now.items.now c.in_ok-state.state.alive c.in_ok-state.ensures.search.ready (listed c.args.sets.now.values) c.in_ok-state.ensures.values numbers
          c.order-order.result.now c.order-order.ensures found;
    }

pub part_of-requires-clause-sides : goal.part_of-requires-clause-sides
part_of-requires-clause-sides g c =
    each_real (net_of g.P.Primitive.behaviour c.args.basis.now.circuit.now) c.args.knots.now c.args.knot c.sides-sides.result.now c.requires.knots c.requires.knot c.sides-sides.ensures

pub part_of-requires-clause-in_tables : goal.part_of-requires-clause-in_tables
part_of-requires-clause-in_tables g c =
    let net : Net = net_of g.P.Primitive.behaviour c.args.basis.now.circuit.now in
    let numbers = c.requires.numbers in
    let are : c.as_slice.result.now ≡ places_in net c.sides-sides.result.now = c.as_slice.ensures ∙ c.in_ok-places.ensures in
    let found = rw (c.in-Some.is) at c.in_ok-first_by.ensures.first in
    let placed = subst (λ (ps : List KeyPlace). IsFirstWith net (names_of c.args.basis.now.items.now) (among c.sides-sides.result.now) c.args.turn (family_of c.in_ok-state.state.alive) ps c.in-Some.chosen) are found in
    let chosen_is : c.as_slice-in-Some.result.now ≡ c.in-Some.chosen = c.as_slice-in-Some.ensures in
    in_tables net c.args.knots.now c.args.knot c.sides-sides.result.now c.requires.knots c.requires.knot c.sides-sides.ensures
    c.known.ensures.wired _ _ c.args.basis.now.items.now c.in_ok-state.state.alive c.in_ok-state.ensures.search.ready (listed c.args.sets.now.values) c.in_ok-state.ensures.values numbers
    c.order-order.result.now c.order-order.ensures c.args.turn c.as_slice-in-Some.result.now
    (subst (λ (ns : List ℕ). IsFirstWith net (names_of c.args.basis.now.items.now) (among c.sides-sides.result.now) c.args.turn (family_of c.in_ok-state.state.alive) (places_in net c.sides-sides.result.now) ns) (sym chosen_is) placed)

pub returns : goal.returns
returns g c =
    let net : Net = net_of g.P.Primitive.behaviour c.args.basis.now.circuit.now in
    let numbers = c.requires.numbers in
    let are : c.as_slice.result.now ≡ places_in net c.sides-sides.result.now = c.as_slice.ensures ∙ c.in_ok-places.ensures in
    let found = rw (c.in-Some.is) at c.in_ok-first_by.ensures.first in
    let placed = subst (λ (ps : List KeyPlace). IsFirstWith net (names_of c.args.basis.now.items.now) (among c.sides-sides.result.now) c.args.turn (family_of c.in_ok-state.state.alive) ps c.in-Some.chosen) are found in
    let chosen_is : c.as_slice-in-Some.result.now ≡ c.in-Some.chosen = c.as_slice-in-Some.ensures in
    record {
      first = is_first net c.args.knots.now c.args.knot c.sides-sides.result.now c.requires.knots c.requires.knot c.sides-sides.ensures
          c.known.ensures.wired _ _ c.args.basis.now.items.now c.in_ok-state.state.alive c.in_ok-state.ensures.search.ready (listed c.args.sets.now.values) c.in_ok-state.ensures.values numbers
          c.order-order.result.now c.order-order.ensures c.args.turn c.as_slice-in-Some.result.now
          (subst (λ (ns : List ℕ). IsFirstWith net (names_of c.args.basis.now.items.now) (among c.sides-sides.result.now) c.args.turn (family_of c.in_ok-state.state.alive) (places_in net c.sides-sides.result.now) ns) (sym chosen_is) placed)
          c.in_ok-part_of-in-Some.field-0 c.in_ok-part_of-in-Some.ensures.sides c.in_ok-part_of-in-Some.ensures.rows c.in_ok-part_of-in-Some.ensures.jammed;
    }
