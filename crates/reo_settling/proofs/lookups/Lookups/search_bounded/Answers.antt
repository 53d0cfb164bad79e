use Rattle.std.proofs.Common.{◌≤◌, arith}
use Rattle.reo_net_base.specs.Net.{Net, net_of}
use Rattle.reo_net_laws.specs.Knots.{in_knot}
use Rattle.reo_part_plans.specs.Plannings.{IsSearchFault}
use Rattle.reo_settling.proofs.Found.{found_planned, searched_after}
use Rattle.reo_settling.proofs.lookups.Lookups.search_bounded.Goals as goal

pub returns-then-search_by_marks-clause-exact : goal.returns-then-search_by_marks-clause-exact
returns-then-search_by_marks-clause-exact g c =
    let net : Net = net_of g.P.Primitive.behaviour c.args.part.now.planning.now.circuit.now in
    let le : c.args.choices ≤ c.args.part.now.planning.now.budget = omega arith in
    found_planned net c.known.ensures.wired c.order-order.result.now c.order-order.ensures c.args.part.now.planning.now.knots.now c.requires.part.planning.knots c.args.part.now.number c.requires.part.number
    c.args.part.now.planning.now.turn c.args.part.now.planning.now.budget c.args.choices c.requires.choices le c.args.rows.now c.search_by_marks.new.rows (c.search_by_marks.ensures.found c.if-search_by_marks.true) c.search_by_marks.ensures.elsewhere

pub returns-clause-exact : goal.returns-clause-exact
returns-clause-exact g c =
    let net : Net = net_of g.P.Primitive.behaviour c.args.part.now.planning.now.circuit.now in
    searched_after c.search_by_values-2.result (IsSearchFault c.args.part.now.planning.now.budget net (in_knot c.args.part.now.planning.now.knots.now.numbers c.args.part.now.number) c.args.part.now.number) c.args.part.now.planning.now.budget net c.args.part.now.planning.now.knots.now c.args.part.now.planning.now.turn c.args.part.now.number
    c.args.rows.now c.search_by_marks.new.rows c.search_by_values-2.new.rows c.search_by_marks.ensures.elsewhere c.search_by_values-2.ensures.exact
