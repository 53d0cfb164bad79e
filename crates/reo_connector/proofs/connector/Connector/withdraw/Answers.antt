-- The ports stay, whether something was pending or not.
use Rattle.std.proofs.Common.{arith, None}
use Rattle.reo_engine.specs.Engine.{Running}
use Rattle.reo_kinds.specs.declared.kind.Kind.{Kind}
use Rattle.reo_connector.proofs.PortsStay.{after_withdrawal}
use Rattle.reo_connector.proofs.connector.Connector.withdraw.Goals as goal

pub invariant_of-self : goal.invariant_of-self
invariant_of-self c =
    let was = c.self.invariant in
    let has = after_withdrawal (λ (e : Running Kind). e.circuit) c.self.inside.engine c.withdraw.new.self c.self.inside.ports.list c.args.port None _
    (was.2, was.3) c.withdraw.result c.withdraw.ensures.circuit c.withdraw.ensures.offers c.withdraw.ensures.same in
    (omega (arith, c.withdraw.ensures.rounds, was.0), was.1, has.0, has.1)
