use Rattle.reo_net_base.specs.Net.{net_of, side_at, end_of}
use Rattle.reo_net_laws.specs.Knots.{in_knot}
use Rattle.reo_open.specs.Opens.{open_behaviour}
use Rattle.reo_listing.proofs.ports.PortRange.{kept_more}
use Rattle.reo_listing.proofs.ports.ports.ports_of.Goals as goal

pub loop-port-preserved : goal.loop-port-preserved
loop-port-preserved c =
    kept_more (λ port. in_knot c.args.knots.now.numbers c.args.part (side_at (net_of open_behaviour c.args.circuit.now) (end_of port 0))) c.loop-port.port c.loop-port.ports c.add.new.ports c.is_in.result
    c.loop-port.invariant c.is_in.ensures c.in_ok-add.ensures
