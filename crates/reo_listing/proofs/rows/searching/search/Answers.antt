use Rattle.std.specs.Prelude.{Result, Ok, Err, OnOk}
use Rattle.reo_net_base.specs.Net.{net_of}
use Rattle.reo_open.specs.Opens.{open_behaviour}
use Rattle.reo_listing.proofs.rows.LookupsLemmas.{ready, beside_ready}
use Rattle.reo_listing.proofs.rows.searching.search.Goals as goal

on_ok : {T E A B : Type 0} → (A → B) → (r : Result T E) → OnOk r A → OnOk r B
on_ok f (Ok t) is = f is
on_ok f (Err e) is = is

pub search_by-requires-clause-tables : goal.search_by-requires-clause-tables
search_by-requires-clause-tables g c = ready c.right_parts_are_ready.ensures (net_of open_behaviour c.args.circuit.now) c.known.ensures.wired c.args.knots.now c.requires.knots c.renew.new.self c.in_ok-renew.ensures

pub returns-clause-lookups : goal.returns-clause-lookups
returns-clause-lookups g c =
    on_ok (beside_ready c.ready_tables_are_right.ensures (net_of open_behaviour c.args.circuit.now) c.args.knots.now c.args.part
    (record { ends = c.renew.new.self.ends; orders = c.renew.new.self.orders; tables = c.search_by.new.tables }) c.in_ok-renew.ensures.ends c.in_ok-renew.ensures.orders)
    c.search_by.result c.search_by.ensures.tables
