use Rattle.std.proofs.Common.{arith}
use Rattle.reo_net_base.specs.Net.{Net, net_of}
use Rattle.reo_rows.specs.Sets.{names_of}
use Rattle.reo_rows.proofs.Using.{plain_used, flow_used}
use Rattle.reo_rows.proofs.usage.is_used.Goals as goal

pub returns-then-code-lt-FLOWS : goal.returns-then-code-lt-FLOWS
returns-then-code-lt-FLOWS g c = λ family sifted seen has.
    let net : Net = net_of g.P.Primitive.behaviour c.args.basis.now.circuit.now in
    plain_used net c.known.ensures.wired (names_of c.args.basis.now.items.now) family c.args.side c.args.joint c.requires.joint c.args.rows.now sifted c.args.code has
    (omega (arith, c.if-code-lt-FLOWS.true)) c.args.marks c.requires.marks c.has.result c.mark_seen.result c.mark_seen.ensures c.has.ensures

pub returns-else-code-lt-FLOWS : goal.returns-else-code-lt-FLOWS
returns-else-code-lt-FLOWS g c = λ family sifted seen has.
    let net : Net = net_of g.P.Primitive.behaviour c.args.basis.now.circuit.now in
    flow_used net c.known.ensures.wired (names_of c.args.basis.now.items.now) family c.args.side c.args.joint c.requires.joint c.args.rows.now sifted c.args.code has
    (omega (arith, c.if-code-lt-FLOWS.false)) seen c.is_set.result c.is_set.ensures
