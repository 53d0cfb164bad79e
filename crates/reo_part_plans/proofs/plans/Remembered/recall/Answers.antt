use Rattle.reo_net_base.specs.Net.{Net, net_of}
use Rattle.reo_part_plans.proofs.Recalled.{kept_or_gone, part_below, recalled}
use Rattle.reo_part_plans.proofs.plans.Remembered.recall.Goals as goal

pub recall-requires-clause-sides : goal.recall-requires-clause-sides
recall-requires-clause-sides g c =
    part_below (net_of g.P.Primitive.behaviour c.args.part.now.planning.now.circuit.now) c.known.ensures.wired c.args.part.now.planning.now.knots.now c.requires.part.planning.knots c.args.part.now.number c.requires.part.number c.sides-sides.result.now c.sides-sides.ensures

pub returns-clause-plans : goal.returns-clause-plans
returns-clause-plans g c =
    let net : Net = net_of g.P.Primitive.behaviour c.args.part.now.planning.now.circuit.now in
    let plans = rw (← c.self.view_is) at c.requires.plans in
    kept_or_gone net c.known.ensures.wired c.args.part.now.planning.now.knots.now c.requires.part.planning.knots c.args.part.now.number c.requires.part.number c.sides-sides.result.now c.sides-sides.ensures
    c.self.inside.parts plans c.at_mut-plans.result.now c.recall.new.self c.at_mut-plans.ensures.value c.recall.ensures.entries

pub returns-clause-recalled : goal.returns-clause-recalled
returns-clause-recalled g c = λ done.
    let net : Net = net_of g.P.Primitive.behaviour c.args.part.now.planning.now.circuit.now in
    let plans = rw (← c.self.view_is) at c.requires.plans in
    (recalled net c.known.ensures.wired c.args.part.now.planning.now.knots.now c.requires.part.planning.knots c.args.part.now.number c.requires.part.number c.sides-sides.result.now c.sides-sides.ensures
    c.order-order.result.now c.order-order.ensures c.args.part.now.planning.now.budget c.args.part.now.planning.now.turn c.self.inside.parts plans c.at_mut-plans.result.now c.at_mut-plans.ensures.value
    c.args.rows.now c.recall.new.rows c.recall.new.flowing c.requires.rows (c.recall.ensures.found done)).0

pub returns-clause-flowing : goal.returns-clause-flowing
returns-clause-flowing g c = λ done.
    let net : Net = net_of g.P.Primitive.behaviour c.args.part.now.planning.now.circuit.now in
    let plans = rw (← c.self.view_is) at c.requires.plans in
    (recalled net c.known.ensures.wired c.args.part.now.planning.now.knots.now c.requires.part.planning.knots c.args.part.now.number c.requires.part.number c.sides-sides.result.now c.sides-sides.ensures
    c.order-order.result.now c.order-order.ensures c.args.part.now.planning.now.budget c.args.part.now.planning.now.turn c.self.inside.parts plans c.at_mut-plans.result.now c.at_mut-plans.ensures.value
    c.args.rows.now c.recall.new.rows c.recall.new.flowing c.requires.rows (c.recall.ensures.found done)).1
