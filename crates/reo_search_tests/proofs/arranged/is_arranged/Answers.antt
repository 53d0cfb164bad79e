use Rattle.std.proofs.Common.{IsTrue, ℕ, List, length, subst}
use Rattle.reo_net_base.specs.Net.{net_of}
use Rattle.reo_search_tests.specs.Bounds.{AreSingle}
use Rattle.reo_search_tests.proofs.Bounded.{one_each}
use Rattle.reo_search_tests.proofs.arranged.is_arranged.Goals as goal

pub arrange-requires-clause-one : goal.arrange-requires-clause-one
arrange-requires-clause-one g c =
    let single : IsTrue c.are_single-single.result = search in
    let loops = subst (λ (l : List ℕ). AreSingle c.in-Ok.sets.values (length l) l) c.loop_joints.ensures (c.are_single-single.ensures single) in
    one_each (net_of g.P.Primitive.behaviour c.args.wanted.now.circuit.now) c.args.wanted.now.knots.now c.args.wanted.now.knot c.in-Ok.sets.values c.requires.knots c.requires.knot loops
