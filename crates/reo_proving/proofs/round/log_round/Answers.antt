use Rattle.std.proofs.Common.{sym, subst}
use Rattle.reo_net_base.specs.Net.{Wiring, net_of}
use Rattle.reo_refute_base.specs.Wide.{IsWide}
use Rattle.reo_rounds.specs.Order.{HasOrder}
use Rattle.reo_proving.proofs.round.log_round.Goals as goal

pub write_logged-requires-clause-narrow : goal.write_logged-requires-clause-narrow
write_logged-requires-clause-narrow g c =
    let w : Wiring g.row.P.Denot = c.args.engine.now.circuit in
    let has : HasOrder (net_of g.P.Primitive.behaviour w) = subst (λ (x : Wiring g.row.P.Denot). HasOrder (net_of g.P.Primitive.behaviour x)) c.circuit.ensures c.known_order.ensures in
    subst (λ (x : Wiring g.row.P.Denot). IsWide (net_of g.P.Primitive.behaviour x) → ⊥) (sym c.circuit-2.ensures)
    (c.within_is_narrow.ensures c.args.budget (net_of g.P.Primitive.behaviour w) has.wired has.order has.is_order c.requires.planned.plan.within)
