use Rattle.reo_net_laws.specs.Knots.{in_knot}
use Rattle.reo_net_base.specs.Net.{net_of}
use Rattle.reo_item_bounds.proofs.Noting.{part_holds}
use Rattle.reo_item_bounds.proofs.kept.Bounds.most_choices.Goals as goal

pub note-requires-clause-joints : goal.note-requires-clause-joints
note-requires-clause-joints g c = λ j is. ((c.requires.joints j).0 is).0

pub note-requires-clause-fed : goal.note-requires-clause-fed
note-requires-clause-fed g c =
    part_holds (net_of g.P.Primitive.behaviour c.args.circuit.now) (in_knot c.args.knots.now.numbers c.args.part) (c.requires.knots.are_knots c.args.part c.requires.part).closed c.args.joints.now c.requires.joints

pub note-requires-2-clause-joints : goal.note-requires-2-clause-joints
note-requires-2-clause-joints g c = λ j is. ((c.requires.joints j).0 is).0

pub note-requires-2-clause-fed : goal.note-requires-2-clause-fed
note-requires-2-clause-fed g c =
    part_holds (net_of g.P.Primitive.behaviour c.args.circuit.now) (in_knot c.args.knots.now.numbers c.args.part) (c.requires.knots.are_knots c.args.part c.requires.part).closed c.args.joints.now c.requires.joints
