-- The ports stay, whether the offer was taken or handed back.
use Rattle.std.proofs.Common.{arith, Some}
use Rattle.reo_engine.specs.Engine.{Running}
use Rattle.reo_kinds.specs.declared.kind.Kind.{Kind}
use Rattle.reo_connector.proofs.PortsStay.{after_offer}
use Rattle.reo_connector.proofs.connector.Connector.offer.Goals as goal

pub invariant_of-self : goal.invariant_of-self
invariant_of-self c =
    let was = c.self.invariant in
    let has = after_offer (λ (e : Running Kind). e.circuit) c.self.inside.engine c.offer.new.self c.self.inside.ports.list c.args.port (Some c.args.offer) _
    (was.2, was.3) c.offer.result c.offer.ensures.circuit c.offer.ensures.offers c.offer.ensures.refused in
    (omega (arith, c.offer.ensures.rounds, was.0), was.1, has.0, has.1)
