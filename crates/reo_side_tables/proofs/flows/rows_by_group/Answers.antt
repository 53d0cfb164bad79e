use Rattle.std.proofs.Common.{[], get_or, sym, ◌∙◌, arith}
use Rattle.reo_net_base.specs.Net.{Net, net_of, no_side}
use Rattle.reo_net_laws.specs.Ends.{IsRowOf}
use Rattle.reo_side_tables.specs.Marks.{groups_in}
use Rattle.reo_side_tables.specs.Grouping.{IsOfGroup}
use Rattle.reo_side_tables.proofs.Growing.{below_more, below_whole}
use Rattle.reo_side_tables.proofs.flows.rows_by_group.Goals as goal

pub loop-row-preserved : goal.loop-row-preserved
loop-row-preserved g c =
    let net : Net = net_of g.P.Primitive.behaviour c.args.circuit.now in
    let in_table : IsRowOf net c.args.side c.loop-row.row = λ d. omega (arith, c.rows-row-end.ensures.count d) in
    below_more (IsOfGroup net c.args.side) (groups_in net c.args.side) c.loop-row.row c.group.result c.loop-row.lists c.add.new.lists c.loop-row.invariant c.in_ok-add.ensures
    (record { in_table = in_table; here = sym (c.group.ensures.group no_side) }) (λ k h. sym h.here ∙ sym (c.group.ensures.group no_side))

pub returns : goal.returns
returns g c =
    let net : Net = net_of g.P.Primitive.behaviour c.args.circuit.now in
    record {
      one_each = c.loop-row.invariant.one_each;
      each = λ group. below_whole (IsOfGroup net c.args.side group) c.loop-row.row (get_or c.loop-row.lists group []) (λ k h. omega (arith, c.rows-row-end.ensures.count no_side, h.in_table no_side)) (c.loop-row.invariant.each group);
    }
