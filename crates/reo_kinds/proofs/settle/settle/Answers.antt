use Rattle.std.proofs.Common.{◌≡◌, ◌∙◌, Bool, true, cond, ap, sym}
use Rattle.reo_net_base.specs.Forms.{mark_by}
use Rattle.reo_net_base.specs.Marks.{is_flow}
use Rattle.reo_kinds.specs.declared.kind.WriterPort.{WriterPort}
use Rattle.reo_kinds.specs.declared.kind.Kind.TheVariants.{Writer}
use Rattle.reo_kinds.specs.Kinds.{first_flows, ready, unoffered}
use Rattle.reo_kinds.proofs.settle.settle.Goals as goal

pub returns-then-flows : goal.returns-then-flows
returns-then-flows c =
    let port : WriterPort = c.in-Writer.port in
    let can = ap (λ (b : Bool). is_flow (mark_by (ready b) c.args.rows.first 0)) (sym c.is_some.ensures) in
    let flows : first_flows (Writer port) c.args.rows ≡ true = can ∙ sym c.flows.ensures ∙ c.if-flows.true in
    rw (c.in-Writer.is) (ap Writer c.withdraw.ensures ∙ ap (λ (b : Bool). Writer (cond b (unoffered port) port)) (sym flows))
