use Rattle.std.proofs.Common.{arith}
use Rattle.reo_net_base.specs.Net.{net_of}
use Rattle.reo_mark_search.proofs.Meeting.{met_side}
use Rattle.reo_mark_search.proofs.Parts.{side_here, side_below}
use Rattle.reo_mark_search.proofs.walking.meets_all.Goals as goal

pub seat_at-seat-requires-clause-side : goal.seat_at-seat-requires-clause-side
seat_at-seat-requires-clause-side g c =
    side_below (net_of g.P.Primitive.behaviour c.args.searched.now.circuit.now) c.args.searched.now.knots.now c.requires.searched.knots c.args.searched.now.part c.requires.searched.part c.sides-sides.result.now c.sides-sides.ensures c.loop-index.index (omega arith)

pub seat_at-seat-requires-clause-here : goal.seat_at-seat-requires-clause-here
seat_at-seat-requires-clause-here g c =
    side_here (net_of g.P.Primitive.behaviour c.args.searched.now.circuit.now) c.args.searched.now.knots.now c.requires.searched.knots c.args.searched.now.part c.requires.searched.part c.sides-sides.result.now c.sides-sides.ensures c.loop-index.index (omega arith)

pub loop-index-preserved : goal.loop-index-preserved
loop-index-preserved g c =
    met_side (net_of g.P.Primitive.behaviour c.args.searched.now.circuit.now) c.known.ensures.wired c.args.searched.now.spots.now c.requires.searched.spots c.sides-sides.result.now c.loop-index.index c.args.sets.now c.seat_at-seat.result.form c.seat_at-seat.result.places.now c.seat_at-seat.ensures c.loop-index.invariant
    (c.meets_at.ensures c.if-not-meets_at.false)
