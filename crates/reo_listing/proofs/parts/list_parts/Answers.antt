use Rattle.std.proofs.Common.{arith, subst, ◌<◌}
use Rattle.std.specs.Prelude.{Err}
use Rattle.reo_net_base.specs.Net.{Wiring, net_of}
use Rattle.reo_net_laws.specs.Knots.{knot_count}
use Rattle.reo_open.specs.declared.opens.Open.{Open}
use Rattle.reo_open.specs.Opens.{open_behaviour}
use Rattle.reo_listing.specs.base.Listed.{ListsParts}
use Rattle.reo_listing.proofs.parts.list_parts.Goals as goal

pub returns-in-Err : goal.returns-in-Err
returns-in-Err g c =
    let count = knot_count c.args.knots.now in
    let lt : c.loop-part.part < count = omega (arith, c.loop-part-test.true, c.count-part-end.ensures) in
    subst (λ (w : Wiring Open). ListsParts (net_of open_behaviour w) w.ports c.args.budget c.args.knots.now.numbers count (Err c.in-Err.fault)) c.loop-part.invariant.0
    (c.in-Err.ensures.tables count lt)
