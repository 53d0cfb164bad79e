use Rattle.std.proofs.Common.{◌∙◌, sym}
use Rattle.reo_net_base.specs.Net.{net_of}
use Rattle.reo_open.specs.Opens.{open_behaviour}
use Rattle.reo_listing.proofs.PartLemmas.{without_ports, with_ports, none_more, table_more, stops}
use Rattle.reo_listing.proofs.rows.LookupsLemmas.{beside}
use Rattle.reo_listing.proofs.parts.add_part.Goals as goal

pub table_of-requires-clause-lookups : goal.table_of-requires-clause-lookups
table_of-requires-clause-lookups g c = beside (net_of open_behaviour c.args.circuit.now) c.args.knots.now c.args.part c.args.lookups.now c.requires.lookups

pub returns-then-is_empty-clause-tables : goal.returns-then-is_empty-clause-tables
returns-then-is_empty-clause-tables g c =
    let net = net_of open_behaviour c.args.circuit.now in
    let none = without_ports net c.args.circuit.now.ports c.args.budget c.args.knots.now.numbers c.args.part c.in_ok-ports.ports c.in_ok-ports.ensures (sym c.is_empty.ensures ∙ c.if-is_empty.true) in
    none_more net c.args.circuit.now.ports c.args.budget c.args.knots.now.numbers c.args.part c.args.tables.now c.requires.before none

pub returns-in-Err-clause-tables : goal.returns-in-Err-clause-tables
returns-in-Err-clause-tables g c =
    let net = net_of open_behaviour c.args.circuit.now in
    let some = with_ports net c.args.circuit.now.ports c.args.budget c.args.knots.now.numbers c.args.part c.in_ok-ports.ports c.in_ok-ports.ensures (sym c.is_empty.ensures ∙ c.if-is_empty.false) in
    stops net c.args.circuit.now.ports c.args.budget c.args.knots.now.numbers c.args.part c.args.tables.now c.requires.before some c.in_ok-ports.ports c.in_ok-ports.ensures c.in-Err.fault c.in-Err.ensures.table

pub returns-in_ok-push-in-Ok-clause-tables : goal.returns-in_ok-push-in-Ok-clause-tables
returns-in_ok-push-in-Ok-clause-tables g c =
    let net = net_of open_behaviour c.args.circuit.now in
    let some = with_ports net c.args.circuit.now.ports c.args.budget c.args.knots.now.numbers c.args.part c.in_ok-ports.ports c.in_ok-ports.ensures (sym c.is_empty.ensures ∙ c.if-is_empty.false) in
    table_more net c.args.circuit.now.ports c.args.budget c.args.knots.now.numbers c.args.part c.args.tables.now c.requires.before some c.in-Ok.table c.in-Ok.ensures.table c.push.new.self
    c.in_ok-push-in-Ok.ensures.ok
