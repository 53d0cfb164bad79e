use Rattle.std.proofs.Common.{◌≡◌, ◌∙◌, ◌<◌, [], length, get_or, subst, sym, arith}
use Rattle.std.proofs.lemmas.List.{get_or_default}
use Rattle.reo_net_base.specs.Net.{Net, net_of}
use Rattle.reo_net_laws.specs.Knots.{in_knot}
use Rattle.reo_search_tables.specs.Orders.{AreJointsOf}
use Rattle.reo_search_tables.proofs.Sorted.{orders_are_of_parts}
use Rattle.reo_settling.proofs.lookups.Lookups.search.Goals as goal

pub most_choices-found-requires-clause-joints : goal.most_choices-found-requires-clause-joints
most_choices-found-requires-clause-joints g c = λ j.
    let net : Net = net_of g.P.Primitive.behaviour c.args.part.now.planning.now.circuit.now in
    let lt : c.args.part.now.number < length c.args.self.now.orders = omega (arith, c.requires.part.number, c.requires.steady.orders.one_each) in
    let here : c.as_slice-joints.result.now ≡ get_or c.args.self.now.orders c.args.part.now.number [] = c.as_slice-joints.ensures ∙ c.at.ensures ∙ get_or_default c.args.self.now.orders c.args.part.now.number c.at.result.now [] lt in
    let of : AreJointsOf net (in_knot c.args.part.now.planning.now.knots.now.numbers c.args.part.now.number) c.as_slice-joints.result.now =
    subst (AreJointsOf net (in_knot c.args.part.now.planning.now.knots.now.numbers c.args.part.now.number)) (sym here) (orders_are_of_parts net c.known.ensures.wired c.args.part.now.planning.now.knots.now c.requires.part.planning.knots c.args.self.now.orders c.requires.steady.orders c.args.part.now.number c.requires.part.number) in
    of.exact j
