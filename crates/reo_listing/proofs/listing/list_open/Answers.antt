use Rattle.reo_listing.proofs.ListLemmas.{listable, listed}
use Rattle.reo_listing.proofs.listing.list_open.Goals as goal

pub list_parts-requires-clause-listable : goal.list_parts-requires-clause-listable
list_parts-requires-clause-listable g c =
    listable c.args.circuit.now c.in_ok-open.open c.in_ok-open.ensures c.in_ok-knots.knots c.in_ok-knots.ensures c.open_parts_are_narrow.ensures c.open_ports_are_gates.ensures c.known.ensures.wired
    c.known_ports.ensures

pub returns : goal.returns
returns g c =
    listed c.args.circuit.now c.in_ok-open.open c.in_ok-open.ensures c.in_ok-knots.knots c.in_ok-knots.ensures c.numbers_are_one.ensures c.args.budget c.requires.none c.list_parts.result
    c.list_parts.ensures
