use Rattle.std.proofs.Common.{◌∙◌, sym}
use Rattle.reo_net_base.specs.Net.{Net, net_of}
use Rattle.reo_net_laws.specs.Ends.{mark_in}
use Rattle.reo_reach.proofs.RowLemmas.{produced_none}
use Rattle.reo_reach.proofs.rows.add_row.Goals as goal

pub add_given-requires-clause-flows : goal.add_given-requires-clause-flows
unfolding mark_in
add_given-requires-clause-flows g c = record {
  plain = c.requires.giving.row;
  flows = sym (rw (c.side_of-side.ensures, c.primitive-primitive.ensures.behaviour) at c.in-F.ensures);
}

pub returns-in_default : goal.returns-in_default
unfolding mark_in
returns-in_default g c =
    let net : Net = net_of g.P.Primitive.behaviour c.args.giving.now.circuit.now in
    let mark = rw (c.side_of-side.ensures, c.primitive-primitive.ensures.behaviour) at c.mark.ensures in
    produced_none net c.args.giving.now.supply.now c.args.giving.now.giver c.args.giving.now.row (λ flows. c.in_default.not-F (mark ∙ flows)) c.args.items.now
