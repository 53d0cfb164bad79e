use Rattle.reo_net_base.specs.Net.{Net, net_of}
use Rattle.reo_rows.proofs.Sieve.{live_row}
use Rattle.reo_rows.proofs.Using.{live_marks}
use Rattle.reo_rows.proofs.usage.used_marks.Goals as goal

pub returns : goal.returns
returns g c = λ m.
    let net : Net = net_of g.P.Primitive.behaviour c.args.basis.now.circuit.now in
    live_marks net c.known.ensures.wired c.args.rows.now.live c.args.side c.args.joint c.requires.joint
    (live_row net c.args.basis.now.items.now c.args.rows.now c.requires.tables c.args.side c.requires.side)
    c.apart_there-apart.result.now c.apart_there-apart.ensures m c.common_marks-common.result c.listed_marks-listed.result c.both.result
    (c.both.ensures m) (c.common_marks-common.ensures m) (c.listed_marks-listed.ensures m)
