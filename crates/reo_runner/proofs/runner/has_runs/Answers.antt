use Rattle.std.proofs.Common.{sym, subst}
use Rattle.reo_net_base.specs.Net.{Wiring, net_of}
use Rattle.reo_rounds.specs.Order.{HasOrder}
use Rattle.reo_runner.proofs.runner.has_runs.Goals as goal

pub returns : goal.returns
returns g c = λ budget limit start same.
    c.trace_exists.ensures budget limit start (subst (λ (w : Wiring g.row.P.Denot). HasOrder (net_of g.P.Primitive.behaviour w)) (sym same) c.known_order.ensures)
