use Rattle.reo_net_base.specs.Net.{Net, net_of, no_side}
use Rattle.std.proofs.Common.{arith}
use Rattle.reo_rows.proofs.Noting.{noted_more}
use Rattle.reo_rows.proofs.sifting.note.Goals as goal

pub returns-clause-noted : goal.returns-clause-noted
returns-clause-noted g c =
    let net : Net = net_of g.P.Primitive.behaviour c.args.circuit.now in
    noted_more net c.args.side c.args.row c.group-group.result c.args.notes.now c.at-noted.result.now c.with_row.result (c.group-group.ensures.group no_side) (omega (arith, c.group-group.ensures.in_range no_side, c.requires.notes)) c.requires.notes
    c.at-noted.ensures c.with_row.ensures
