use Rattle.std.proofs.Common.{◌≡◌, true}
use Rattle.reo_net_base.specs.Net.{Net, net_of}
use Rattle.reo_mark_search.specs.Searched.{in_part}
use Rattle.reo_mark_search.proofs.Seated.{narrowed_reduced, narrowed_none}
use Rattle.reo_mark_search.proofs.narrowing.narrow_at.Goals as goal

pub returns-clause-reduced : goal.returns-clause-reduced
returns-clause-reduced g c =
    let net : Net = net_of g.P.Primitive.behaviour c.args.searched.now.circuit.now in
    let seat = c.seat_at-seat.ensures in
    narrowed_reduced net c.known.ensures.wired c.args.searched.now.spots.now c.requires.searched.spots (in_part c.args.searched.now) (c.requires.searched.knots.are_knots c.args.searched.now.part c.requires.searched.part).closed
    seat.primitive seat.side seat.primitive_in seat.side_in c.args.side seat.number c.requires.here c.seat_at-seat.result.form seat.form_is c.seat_at-seat.result.places.now seat.ends
    c.args.sets.now c.narrow.new.self c.narrow.ensures.narrowed

pub returns-clause-none : goal.returns-clause-none
returns-clause-none g c = λ fails.
    let net : Net = net_of g.P.Primitive.behaviour c.args.searched.now.circuit.now in
    let seat = c.seat_at-seat.ensures in
    narrowed_none net c.known.ensures.wired c.args.searched.now.spots.now c.requires.searched.spots (in_part c.args.searched.now) (c.requires.searched.knots.are_knots c.args.searched.now.part c.requires.searched.part).closed
    seat.primitive seat.side seat.primitive_in seat.side_in c.args.side seat.number c.requires.here c.seat_at-seat.result.form seat.form_is c.seat_at-seat.result.places.now seat.ends
    c.args.sets.now (λ some. let holds : c.narrow.result ≡ true = c.narrow.ensures.some.1 some in cc)
