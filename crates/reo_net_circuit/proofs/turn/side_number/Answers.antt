use Rattle.std.proofs.Common.{ℕ, List, map, arith}
use Rattle.reo_net_base.specs.Behaviour.{Behaviour}
use Rattle.reo_net_base.specs.Net.{behaviour_at, side_at}
use Rattle.reo_net_circuit.proofs.ReshapeLemmas.{lawful_at}
use Rattle.reo_net_circuit.proofs.turn.side_number.Goals as goal
use Rattle.reo_net_circuit.proofs.Sides.{side_in}

pub overflow_add-result : goal.overflow_add-result
overflow_add-result g c =
    let bs : List Behaviour = map g.P.Primitive.behaviour c.args.primitives.now in
    let p : ℕ = c.args.end.primitive in
    let side = rw c.primitive_at.ensures at c.side_of-side.ensures in
    let first = c.requires.firsts.first p 0 c.requires.end.0 in
    let lawful = lawful_at g.P.Primitive.behaviour g.met.P.Primitive.lawful c.args.primitives.now p c.requires.end.0 in
    let there = side_in bs p ((behaviour_at bs p).side_of c.args.end.end) c.requires.end.0 (lawful.sides_in c.args.end.end c.requires.end.1) in
    omega (arith, side, first, there, c.requires.sides, c.ranges.sides)

pub returns : goal.returns
unfolding side_at
returns g c =
    let bs : List Behaviour = map g.P.Primitive.behaviour c.args.primitives.now in
    let p : ℕ = c.args.end.primitive in
    let side = rw c.primitive_at.ensures at c.side_of-side.ensures in
    let first = c.requires.firsts.first p 0 c.requires.end.0 in
    let lawful = lawful_at g.P.Primitive.behaviour g.met.P.Primitive.lawful c.args.primitives.now p c.requires.end.0 in
    let there = side_in bs p ((behaviour_at bs p).side_of c.args.end.end) c.requires.end.0 (lawful.sides_in c.args.end.end c.requires.end.1) in
    record { number = omega (arith, side, first); in_range = omega (arith, side, first, there, c.requires.sides) }
