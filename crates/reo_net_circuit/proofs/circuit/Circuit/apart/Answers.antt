-- The side is one of its owner's.
use Rattle.reo_net_base.specs.Net.{Net, Side, behaviour_at, net_of}
use Rattle.reo_net_circuit.proofs.circuit.Circuit.apart.Goals as goal

pub apart-requires-clause-row : goal.apart-requires-clause-row
apart-requires-clause-row g c =
    let net : Net = net_of g.P.Primitive.behaviour c.args.self.now in
    let side : Side = record { of = behaviour_at net.primitives c.owner-place.result.primitive; number = c.owner-place.result.side } in
    rw c.primitive.ensures.behaviour (rw (c.owner-place.ensures.owner side) at (c.requires.row side))
