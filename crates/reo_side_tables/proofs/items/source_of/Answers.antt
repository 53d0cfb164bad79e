use Rattle.reo_net_base.specs.Net.{net_of}
use Rattle.reo_joint_values.specs.Values.{no_joint}
use Rattle.reo_joint_values.proofs.Fitting.{giver_row}
use Rattle.reo_side_tables.proofs.items.source_of.Goals as goal

pub from-requires-clause-row : goal.from-requires-clause-row
from-requires-clause-row g c =
    let there = giver_row (net_of g.P.Primitive.behaviour c.args.circuit.now) c.known.ensures.wired c.args.side c.args.row c.args.joint c.requires.joint c.requires.at c.requires.row in
    rw (c.side_of.ensures, c.primitive-primitive.ensures.behaviour) (rw (c.joint.ensures no_joint) at there)
