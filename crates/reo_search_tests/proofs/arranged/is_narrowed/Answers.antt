use Rattle.std.proofs.Common.{◌<◌}
use Rattle.reo_net_base.specs.Net.{net_of}
use Rattle.reo_net_laws.specs.Knots.{knot_count}
use Rattle.reo_walk.proofs.Listing.{knot_among, among_real}
use Rattle.reo_search_tests.proofs.arranged.is_narrowed.Goals as goal

pub narrow-requires-clause-closed : goal.narrow-requires-clause-closed
narrow-requires-clause-closed g c =
    let some : 0 < knot_count c.args.knots.now = c.requires.some in
    (knot_among (net_of g.P.Primitive.behaviour c.args.circuit.now) c.args.knots.now 0 c.sides-sides.result.now c.requires.knots some c.sides-sides.ensures).closed

pub narrow-requires-clause-sides : goal.narrow-requires-clause-sides
narrow-requires-clause-sides g c =
    let some : 0 < knot_count c.args.knots.now = c.requires.some in
    among_real (net_of g.P.Primitive.behaviour c.args.circuit.now) c.args.knots.now 0 c.sides-sides.result.now c.requires.knots some c.sides-sides.ensures
