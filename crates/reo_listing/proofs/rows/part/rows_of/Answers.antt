use Rattle.reo_net_base.specs.Net.{net_of}
use Rattle.reo_net_laws.specs.Knots.{in_knot}
use Rattle.reo_open.specs.Opens.{open_behaviour}
use Rattle.reo_listing.proofs.rows.PartLemmas.{fault_of}
use Rattle.reo_listing.proofs.rows.part.rows_of.Goals as goal

pub returns-in-Err-clause-table : goal.returns-in-Err-clause-table
returns-in-Err-clause-table g c =
    fault_of c.args.budget (net_of open_behaviour c.args.circuit.now) (in_knot c.args.knots.now.numbers c.args.part) c.args.ports.now c.args.part c.in-Err.fault c.in-Err.ensures.exact
