use Rattle.std.proofs.Common.{◌≡◌, ◌∙◌, ℕ, ◌+◌, ◌<◌, List, [], length, get_or, arith, subst, sym, ap}
use Rattle.std.specs.Prelude.{IsTrue, map}
use Rattle.reo_net_laws.specs.Knots.{in_knot}
use Rattle.reo_joint_values.specs.Many.{IsJointIn}
use Rattle.reo_weights.specs.Weights.{product_of}
use Rattle.reo_item_bounds.specs.Bounds.{IsBoundAt}
use Rattle.reo_net_base.specs.Net.{Net, net_of}
use Rattle.reo_item_bounds.proofs.Looped.{loops_below, has_bounds}
use Rattle.reo_item_bounds.proofs.kept.Bounds.choices.Goals as goal

pub are_bounds-requires-clause-joints : goal.are_bounds-requires-clause-joints
are_bounds-requires-clause-joints g c = λ j is. ((c.requires.joints j).0 is).0

pub product-requires : goal.product-requires
product-requires g c = λ m lt.
    let net : Net = net_of g.P.Primitive.behaviour c.args.circuit.now in
    let below = loops_below net c.known.ensures.wired c.args.knots.now c.requires.knots c.args.part c.requires.part [] in
    let here : get_or c.loop_joints.result.now m 0 < length net.joints =
    subst (λ (xs : List ℕ). m < length xs → get_or xs m 0 < length net.joints) (sym c.loop_joints.ensures) (below m) lt in
    omega (arith, here, c.are_bounds.ensures.kept.one_bound, ap length c.as_slice.ensures)

pub returns-in-Some-clause-found : goal.returns-in-Some-clause-found
returns-in-Some-clause-found g c =
    let net : Net = net_of g.P.Primitive.behaviour c.args.circuit.now in
    let loops : c.loop_joints.result.now ≡ get_or c.args.knots.now.loop_joints c.args.part [] = c.loop_joints.ensures in
    let same : c.as_slice.result.now ≡ c.are_bounds.new.self.bounds = c.as_slice.ensures in
    let told : IsTrue c.are_bounds.result = grind (arith, c.if-not-are_bounds.false) in
    let each : (j : ℕ) → IsJointIn net (in_knot c.args.knots.now.numbers c.args.part) j → IsBoundAt net (λ (k : ℕ). get_or c.are_bounds.new.self.bounds k 0) j =
    λ j is. c.are_bounds.ensures.bounds told j ((c.requires.joints j).1 is) in
    has_bounds net c.known.ensures.wired c.args.knots.now c.requires.knots c.args.part c.requires.part [] (λ (k : ℕ). get_or c.are_bounds.new.self.bounds k 0) each c.in-Some.choices
    ((λ i. product_of (map (λ (j : ℕ). get_or (sym same i) j 0 + 4) (sym loops i))) ∙ c.in-Some.ensures)
