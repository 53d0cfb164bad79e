-- The side of an end is one of the sides.
use Rattle.std.proofs.Common.{arith}
use Rattle.reo_net_base.specs.Net.{side_at, Net, net_of}
use Rattle.reo_net_circuit.proofs.NetLemmas.{end_side_in, end_side_is}
use Rattle.reo_net_circuit.proofs.circuit.Circuit.side_of.Goals as goal

pub overflow_add-result : goal.overflow_add-result
unfolding side_at
overflow_add-result g c =
    let net : Net = net_of g.P.Primitive.behaviour c.args.self.now in
    let side = rw c.primitive.ensures.behaviour at c.side_of-side.ensures in
    omega (arith, end_side_in net c.known.ensures.wired c.args.end c.requires, side)

pub returns-clause-in_range : goal.returns-clause-in_range
unfolding side_at
returns-clause-in_range g c =
    let net : Net = net_of g.P.Primitive.behaviour c.args.self.now in
    let side = rw c.primitive.ensures.behaviour at c.side_of-side.ensures in
    rw (c.first_of-first.ensures, side) (end_side_in net c.known.ensures.wired c.args.end c.requires)

pub returns-clause-side : goal.returns-clause-side
unfolding side_at
returns-clause-side g c =
    let net : Net = net_of g.P.Primitive.behaviour c.args.self.now in
    let side = rw c.primitive.ensures.behaviour at c.side_of-side.ensures in
    rw (c.first_of-first.ensures, side) (end_side_is net c.known.ensures.wired c.args.end c.requires)
