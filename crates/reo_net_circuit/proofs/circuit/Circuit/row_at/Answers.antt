-- The row stands at the side of the end.
use Rattle.reo_net_base.specs.Net.{Net, side_of_end, net_of}
use Rattle.reo_net_circuit.proofs.circuit.Circuit.row_at.Goals as goal

pub returns-clause-in_table : goal.returns-clause-in_table
returns-clause-in_table g c =
    let net : Net = net_of g.P.Primitive.behaviour c.args.self.now in
    rw (c.side_of.ensures.side (side_of_end net c.args.end)) at (c.row.ensures.in_table (side_of_end net c.args.end))
