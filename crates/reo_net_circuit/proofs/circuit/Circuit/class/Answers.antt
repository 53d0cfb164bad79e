-- The class of a row, by its side.
use Rattle.reo_net_base.specs.Net.{Net, Side, behaviour_at, net_of}
use Rattle.reo_net_circuit.proofs.circuit.Circuit.class.Goals as goal

pub class-requires-clause-row : goal.class-requires-clause-row
class-requires-clause-row g c =
    let net : Net = net_of g.P.Primitive.behaviour c.args.self.now in
    let side : Side = record { of = behaviour_at net.primitives c.owner-place.result.primitive; number = c.owner-place.result.side } in
    let below = rw (c.owner-place.ensures.owner side) at (c.row-row.ensures.in_table side) in
    rw c.primitive.ensures.behaviour below

pub returns : goal.returns
returns g c = λ e. rw (c.owner-place.ensures.owner e) (rw (c.primitive.ensures.behaviour, c.row-row.ensures.row) at c.class.ensures)
