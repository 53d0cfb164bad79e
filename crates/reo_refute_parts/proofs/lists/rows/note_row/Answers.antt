use Rattle.std.proofs.Common.{◌∙◌, sym}
use Rattle.std.proofs.lemmas.Result.{on_ok_weaker}
use Rattle.reo_net_base.specs.Net.{Net, net_of}
use Rattle.reo_net_laws.specs.Ends.{mark_in}
use Rattle.reo_refute_parts.proofs.lists.RowLemmas.{noted_flow, noted_none}
use Rattle.reo_refute_parts.proofs.lists.rows.note_row.Goals as goal

pub note_given-requires-clause-flows : goal.note_given-requires-clause-flows
unfolding mark_in
note_given-requires-clause-flows g c = record {
  plain = c.requires.row;
  flows = sym (rw (c.side_of.ensures, c.primitive-primitive.ensures.behaviour) at c.in-F.ensures);
}

pub returns-in-F : goal.returns-in-F
unfolding mark_in
returns-in-F g c =
    let net : Net = net_of g.P.Primitive.behaviour c.args.giving.now.circuit.now in
    let flows = sym (rw (c.side_of.ensures, c.primitive-primitive.ensures.behaviour) at c.in-F.ensures) in
    on_ok_weaker c.note_given.result
    (noted_flow net c.args.giving.now.lists.now c.args.giving.now.giver c.args.giving.now.row flows c.args.old.now c.args.new.now c.note_given.new.new)
    c.note_given.ensures

pub returns-in_default : goal.returns-in_default
unfolding mark_in
returns-in_default g c =
    let net : Net = net_of g.P.Primitive.behaviour c.args.giving.now.circuit.now in
    let mark = rw (c.side_of.ensures, c.primitive-primitive.ensures.behaviour) at c.mark.ensures in
    noted_none net c.args.giving.now.lists.now c.args.giving.now.giver c.args.giving.now.row (λ flows. c.in_default.not-F (mark ∙ flows)) c.args.old.now c.args.new.now
