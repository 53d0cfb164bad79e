use Rattle.std.proofs.Common.{◌≡◌, ◌∙◌, ◌<◌, ◌+◌, ℕ, Bool, true, List, [], ◌∷◌, length, slice_index, set, sym, ap, subst, arith, get_or-set_other}
use Rattle.reo_net_base.specs.Net.{Net, net_of}
use Rattle.reo_mark_search.specs.Fitting.{ArePinned}
use Rattle.reo_mark_search.specs.Places.{row_place}
use Rattle.reo_mark_search.specs.Searched.{in_part}
use Rattle.reo_mark_search.specs.Walking.{GoesOn}
use Rattle.reo_mark_search.proofs.Meeting.{pinned_next}
use Rattle.reo_mark_search.proofs.Parts.{side_here, side_below}
use Rattle.reo_mark_search.proofs.Seated.{chosen_taken, chosen_fewer}
use Rattle.reo_mark_search.proofs.Steps.{taken_goes_on}
use Rattle.reo_mark_search.proofs.taking.row_at.Goals as goal

pub seat_at-seat-requires-clause-side : goal.seat_at-seat-requires-clause-side
seat_at-seat-requires-clause-side g c =
    side_below (net_of g.P.Primitive.behaviour c.args.searched.now.circuit.now) c.args.searched.now.knots.now c.requires.searched.knots c.args.searched.now.part c.requires.searched.part c.sides.result.now c.sides.ensures c.args.index
    (subst (λ (xs : List ℕ). c.args.index < length xs) (sym c.sides.ensures) c.requires.index)

pub seat_at-seat-requires-clause-here : goal.seat_at-seat-requires-clause-here
seat_at-seat-requires-clause-here g c =
    side_here (net_of g.P.Primitive.behaviour c.args.searched.now.circuit.now) c.args.searched.now.knots.now c.requires.searched.knots c.args.searched.now.part c.requires.searched.part c.sides.result.now c.sides.ensures c.args.index
    (subst (λ (xs : List ℕ). c.args.index < length xs) (sym c.sides.ensures) c.requires.index)

pub at_mut-requires : goal.at_mut-requires
at_mut-requires g c =
    let below = side_below (net_of g.P.Primitive.behaviour c.args.searched.now.circuit.now) c.args.searched.now.knots.now c.requires.searched.knots c.args.searched.now.part c.requires.searched.part c.sides.result.now c.sides.ensures c.args.index
    (subst (λ (xs : List ℕ). c.args.index < length xs) (sym c.sides.ensures) c.requires.index) in
    omega (arith, below, c.requires.rows)

pub returns-clause-goes_on : goal.returns-clause-goes_on
returns-clause-goes_on g c =
    let net : Net = net_of g.P.Primitive.behaviour c.args.searched.now.circuit.now in
    let inside = in_part c.args.searched.now in
    let sides : List ℕ = c.sides.result.now in
    let lt : c.args.index < length sides = subst (λ (xs : List ℕ). c.args.index < length xs) (sym c.sides.ensures) c.requires.index in
    let here = side_here net c.args.searched.now.knots.now c.requires.searched.knots c.args.searched.now.part c.requires.searched.part sides c.sides.ensures c.args.index lt in
    let seat = c.seat_at-seat.ensures in
    subst (λ (xs : List ℕ). GoesOn net inside (row_place (slice_index xs c.args.index) ∷ []) c.args.sets.now c.narrow_waiting.new.sets) c.sides.ensures
    (taken_goes_on net inside (row_place (slice_index sides c.args.index)) c.args.sets.now c.take_row-row.new.self c.narrow_waiting.new.sets
    (chosen_taken net c.known.ensures.wired c.args.searched.now.spots.now c.requires.searched.spots inside (c.requires.searched.knots.are_knots c.args.searched.now.part c.requires.searched.part).closed
    seat.primitive seat.side seat.primitive_in seat.side_in (slice_index sides c.args.index) seat.number here c.seat_at-seat.result.form seat.form_is c.seat_at-seat.result.places.now seat.ends
    c.take_row-row.result c.args.sets.now c.take_row-row.new.self c.take_row-row.ensures)
    c.narrow_waiting.ensures.reduced)

pub returns-clause-pinned : goal.returns-clause-pinned
returns-clause-pinned g c = λ before.
    let net : Net = net_of g.P.Primitive.behaviour c.args.searched.now.circuit.now in
    let inside = in_part c.args.searched.now in
    let sides : List ℕ = c.sides.result.now in
    let lt : c.args.index < length sides = subst (λ (xs : List ℕ). c.args.index < length xs) (sym c.sides.ensures) c.requires.index in
    let here = side_here net c.args.searched.now.knots.now c.requires.searched.knots c.args.searched.now.part c.requires.searched.part sides c.sides.ensures c.args.index lt in
    let below = side_below net c.args.searched.now.knots.now c.requires.searched.knots c.args.searched.now.part c.requires.searched.part sides c.sides.ensures c.args.index lt in
    let seat = c.seat_at-seat.ensures in
    let rows : List ℕ = set c.args.rows.now (slice_index sides c.args.index) c.take_row-row.result in
    let fewer = chosen_fewer net c.known.ensures.wired c.args.searched.now.spots.now c.requires.searched.spots inside (c.requires.searched.knots.are_knots c.args.searched.now.part c.requires.searched.part).closed
    seat.primitive seat.side seat.primitive_in seat.side_in (slice_index sides c.args.index) seat.number here c.seat_at-seat.result.form seat.form_is c.seat_at-seat.result.places.now seat.ends
    c.take_row-row.result c.args.sets.now c.take_row-row.new.self c.take_row-row.ensures in
    let old : ArePinned net c.args.searched.now.spots.now sides c.args.index c.args.sets.now c.args.rows.now = subst (λ (xs : List ℕ). ArePinned net c.args.searched.now.spots.now xs c.args.index c.args.sets.now c.args.rows.now) (sym c.sides.ensures) before in
    subst (λ (xs : List ℕ). ArePinned net c.args.searched.now.spots.now xs (c.args.index + 1) c.narrow_waiting.new.sets rows) c.sides.ensures
    (pinned_next net c.known.ensures.wired c.args.searched.now.spots.now c.requires.searched.spots sides c.args.index c.args.sets.now c.take_row-row.new.self c.narrow_waiting.new.sets c.args.rows.now c.take_row-row.result c.seat_at-seat.result.form c.seat_at-seat.result.places.now seat c.take_row-row.ensures c.narrow_waiting.ensures.reduced.fewer fewer
    (omega (arith, below, c.requires.rows)) old)

pub returns-clause-others : goal.returns-clause-others
returns-clause-others g c = λ s away.
    let net : Net = net_of g.P.Primitive.behaviour c.args.searched.now.circuit.now in
    let inside : ℕ → Bool = in_part c.args.searched.now in
    let sides : List ℕ = c.sides.result.now in
    let lt : c.args.index < length sides = subst (λ (xs : List ℕ). c.args.index < length xs) (sym c.sides.ensures) c.requires.index in
    let here : inside (slice_index sides c.args.index) ≡ true = side_here net c.args.searched.now.knots.now c.requires.searched.knots c.args.searched.now.part c.requires.searched.part sides c.sides.ensures c.args.index lt in
    get_or-set_other c.args.rows.now (slice_index sides c.args.index) s c.take_row-row.result 0 (λ same. let holds : inside s ≡ true = ap inside same ∙ here in cc)
