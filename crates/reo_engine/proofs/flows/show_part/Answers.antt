use Rattle.reo_net_base.specs.Net.{Net, net_of}
use Rattle.reo_mark_search.proofs.Parts.{side_below}
use Rattle.reo_engine.proofs.FlowsLemmas.{jams_as_first}
use Rattle.reo_engine.proofs.flows.show_part.Goals as goal

pub first_is_plain-requires-clause-sides : goal.first_is_plain-requires-clause-sides
first_is_plain-requires-clause-sides g c =
    side_below (net_of g.P.Primitive.behaviour c.args.circuit.now) c.args.knots.now c.requires.knots c.args.part c.requires.part c.sides-sides.result.now c.sides-sides.ensures

pub renew-requires-clause-sides : goal.renew-requires-clause-sides
renew-requires-clause-sides g c =
    side_below (net_of g.P.Primitive.behaviour c.args.circuit.now) c.args.knots.now c.requires.knots c.args.part c.requires.part c.sides-sides.result.now c.sides-sides.ensures

pub renew_plain-requires-clause-sides : goal.renew_plain-requires-clause-sides
renew_plain-requires-clause-sides g c =
    side_below (net_of g.P.Primitive.behaviour c.args.circuit.now) c.args.knots.now c.requires.knots c.args.part c.requires.part c.sides-sides.result.now c.sides-sides.ensures

pub renew_plain-requires-clause-plain : goal.renew_plain-requires-clause-plain
renew_plain-requires-clause-plain g c =
    let net : Net = net_of g.P.Primitive.behaviour c.args.circuit.now in
    jams_as_first net c.known.ensures.wired c.args.knots.now c.requires.knots c.args.rows.now c.requires.coloured c.args.part c.requires.part c.sides-sides.result.now c.sides-sides.ensures
    (c.first_is_plain.ensures c.if-first_is_plain.true)
