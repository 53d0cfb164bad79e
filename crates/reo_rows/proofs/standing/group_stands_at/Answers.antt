use Rattle.std.proofs.Common.{◌∙◌}
use Rattle.reo_net_base.specs.Net.{Net, net_of, no_side}
use Rattle.reo_side_tables.specs.Marks.{common_at_joint}
use Rattle.reo_rows.specs.Sets.{family_of}
use Rattle.reo_rows.proofs.Left.{left_test}
use Rattle.reo_rows.proofs.Reading.{end_read, common_read}
use Rattle.reo_rows.proofs.standing.group_stands_at.Goals as goal

pub common-requires-clause-end : goal.common-requires-clause-end
common-requires-clause-end g c = end_read (net_of g.P.Primitive.behaviour c.args.basis.now.circuit.now) c.known.ensures.wired c.args.side c.args.joint c.requires.joint c.end_at-end.result c.end_at-end.ensures

pub returns : goal.returns
returns g c =
    let net : Net = net_of g.P.Primitive.behaviour c.args.basis.now.circuit.now in
    left_test net (family_of c.args.alive.now) c.args.side c.args.joint c.marks_left-marks.result c.has.result c.common.result (common_at_joint net c.args.side c.args.group c.args.joint) c.has.ensures
    (c.common.ensures no_side ∙ common_read net c.known.ensures.wired c.args.side c.args.joint c.requires.joint c.end_at-end.result c.end_at-end.ensures c.args.group) c.marks_left-marks.ensures
