use Rattle.reo_net_base.specs.Net.{net_of}
use Rattle.reo_open.specs.Opens.{open_behaviour}
use Rattle.reo_listing.proofs.rows.LookupsLemmas.{of_tables}
use Rattle.reo_listing.proofs.rows.lookups.Lookups.new.Goals as goal

pub returns : goal.returns
returns c =
    of_tables c.ready_tables_are_right.ensures (net_of open_behaviour c.args.circuit.now) c.args.knots.now (record { ends = c.in_ok-ends.ends; orders = c.in_ok-orders.orders; tables = c.in_ok-tables.tables })
    c.in_ok-ends.ensures c.in_ok-orders.ensures c.in_ok-tables.ensures
