use Rattle.std.proofs.Common.{◌∙◌}
use Rattle.reo_net_base.specs.Net.{net_of}
use Rattle.reo_side_tables.proofs.Sides.{row_here, mark_here}
use Rattle.reo_side_tables.proofs.marks.mark_at_joint.Goals as goal

pub mark-requires-clause-row : goal.mark-requires-clause-row
mark-requires-clause-row g c =
    row_here (net_of g.P.Primitive.behaviour c.args.circuit.now) c.known.ensures.wired c.args.side c.args.joint (record { in_range = c.requires.joint; here = c.requires.at }) c.args.row c.requires.row
    c.end_at-end.result (g.P.Primitive.behaviour c.primitive-primitive.result.now) c.side_of.result c.end_at-end.ensures c.primitive-primitive.ensures.behaviour c.side_of.ensures

pub returns : goal.returns
returns g c =
    c.mark.ensures ∙ mark_here (net_of g.P.Primitive.behaviour c.args.circuit.now) c.known.ensures.wired c.args.side c.args.joint (record { in_range = c.requires.joint; here = c.requires.at }) c.args.row
    c.end_at-end.result (g.P.Primitive.behaviour c.primitive-primitive.result.now) c.side_of.result c.end_at-end.ensures c.primitive-primitive.ensures.behaviour c.side_of.ensures
