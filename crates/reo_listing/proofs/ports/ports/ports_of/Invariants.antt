use Rattle.std.proofs.Common.{◌≡◌}
use Rattle.reo_net_base.specs.Net.{net_of}
use Rattle.reo_net_laws.specs.Knots.{in_knot}
use Rattle.reo_open.specs.Opens.{open_behaviour}
use Rattle.reo_listing.specs.base.Tables.{ports_in}
use Rattle.reo_listing.proofs.ports.ports.ports_of.Given as goal

abbrev pub invariant-loop-port : goal.invariant-loop-port
invariant-loop-port l = l.ports ≡ ports_in (net_of open_behaviour l.circuit) l.port (in_knot l.knots.numbers l.part)
