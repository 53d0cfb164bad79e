use Rattle.std.proofs.Common.{◌∙◌}
use Rattle.reo_net_base.specs.Net.{Net, net_of}
use Rattle.reo_settling.proofs.Listed.{first_in_tables}
use Rattle.reo_settling.proofs.lookups.Lookups.find.Goals as goal

pub list_flowing-requires-clause-rows : goal.list_flowing-requires-clause-rows
list_flowing-requires-clause-rows g c =
    let net : Net = net_of g.P.Primitive.behaviour c.args.part.now.planning.now.circuit.now in
    let planned = c.in_ok-bound.ensures.exact in
    rw c.as_slice-rows.ensures (first_in_tables net c.args.part.now.planning.now.knots.now c.args.part.now.planning.now.turn c.args.part.now.number c.search.new.rows (planned.one_each ∙ c.requires.rows) planned.first)
