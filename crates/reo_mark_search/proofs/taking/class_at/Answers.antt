use Rattle.std.proofs.Common.{◌≡◌, ◌∙◌, List, subst}
use Rattle.reo_net_base.specs.Net.{Net, net_of}
use Rattle.reo_mark_sets.specs.declared.marks.PlainMarks.{PlainMarks}
use Rattle.reo_mark_search.specs.Fitting.{AreReduced}
use Rattle.reo_mark_search.specs.Places.{class_place}
use Rattle.reo_mark_search.specs.Searched.{in_part}
use Rattle.reo_mark_search.proofs.Seated.{classed_taken}
use Rattle.reo_mark_search.proofs.Steps.{taken_goes_on}
use Rattle.reo_mark_search.proofs.taking.class_at.Goals as goal
use Rattle.reo_mark_search.proofs.taking.class_at.Goals.{then-is_late, else-is_late}

pub returns-clause-goes_on : goal.returns-clause-goes_on
returns-clause-goes_on g c =
    let net : Net = net_of g.P.Primitive.behaviour c.args.searched.now.circuit.now in
    let inside = in_part c.args.searched.now in
    let seat = c.seat_at-seat.ensures in
    let mid : c.if-is_late.sets ≡ c.take_class.new.self = elim c.if-is_late.branch [ then-is_late w ↦ w.sets-is ∙ w.wait.ensures | else-is_late w ↦ w.sets-is ] in
    taken_goes_on net inside (class_place net c.args.searched.now.turn c.args.side) c.args.sets.now c.take_class.new.self c.narrow_waiting.new.sets
    (classed_taken net c.known.ensures.wired c.args.searched.now.spots.now c.requires.searched.spots inside (c.requires.searched.knots.are_knots c.args.searched.now.part c.requires.searched.part).closed
    seat.primitive seat.side seat.primitive_in seat.side_in c.args.side seat.number c.requires.here c.seat_at-seat.result.form seat.form_is c.seat_at-seat.result.places.now seat.ends
    c.args.searched.now.turn c.args.sets.now c.take_class.new.self c.take_class.ensures)
    (subst (λ (s : List PlainMarks). AreReduced net inside s c.narrow_waiting.new.sets) mid c.narrow_waiting.ensures.reduced)
