use Rattle.std.proofs.Common.{◌≡◌, ◌∙◌, Some, sym}
use Rattle.reo_net_base.specs.Net.{Net, net_of, no_side}
use Rattle.reo_side_tables.specs.Marks.{apart_in}
use Rattle.reo_rows.proofs.Optional.{ne_some}
use Rattle.reo_rows.proofs.Using.{other_tested}
use Rattle.reo_rows.proofs.usage.has_common_row.Goals as goal

pub returns-else-ne : goal.returns-else-ne
returns-else-ne g c = λ rows is.
    let net : Net = net_of g.P.Primitive.behaviour c.args.circuit.now in
    let apart : apart_in net c.args.side c.in-Some.first ≡ Some c.args.end = sym (c.apart.ensures no_side) ∙ ne_some c.ne.result c.apart.result c.args.end c.ne.ensures c.if-ne.false in
    other_tested net rows c.args.side c.args.end c.args.noted is c.in-Some.first c.is_some.result c.in-Some.is apart c.is_some.ensures
