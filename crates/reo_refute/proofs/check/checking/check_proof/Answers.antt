use Rattle.reo_net_base.specs.Net.{Net, net_of}
use Rattle.reo_refute.proofs.check.Judged.{first_rows}
use Rattle.reo_refute.proofs.check.checking.check_proof.Goals as goal

pub returns-in-Ok-clause-first : goal.returns-in-Ok-clause-first
returns-in-Ok-clause-first g c =
    let net : Net = net_of g.P.Primitive.behaviour c.args.circuit.now in
    first_rows c.right_logs_refute.ensures net c.known.ensures.wired c.order-order.result.now c.order-order.ensures c.args.turn c.args.rows.now c.args.log.now c.in-Ok.ensures
