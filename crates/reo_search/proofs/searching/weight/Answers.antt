use Rattle.std.proofs.Common.{◌≡◌, ℕ, Bool, List, sym, subst}
use Rattle.reo_values.specs.declared.value.Value.{Value}
use Rattle.reo_net_base.specs.Net.{Net, net_of}
use Rattle.reo_net_laws.specs.Parts.{IsKnot}
use Rattle.reo_net_laws.specs.Knots.{Knotted, in_knot}
use Rattle.reo_reach.specs.Supplied.{Supplied}
use Rattle.reo_reach.specs.Width.{TellsItems}
use Rattle.reo_reach.proofs.WidthLemmas.{parts_told}
use Rattle.reo_weights.specs.Weights.{AreNamed, IsWeight}
use Rattle.reo_joint_values.specs.Values.{Names}
use Rattle.reo_rows.specs.Sets.{names_of}
use Rattle.reo_propagate.specs.Queues.{among}
use Rattle.reo_search.specs.choices.Remaining.{AreLoopsIn, IsLeftOfAll}
use Rattle.reo_walk.proofs.Listing.{among_same, knot_among, among_real}
use Rattle.reo_search.proofs.choices.Remains.{weight_left}
use Rattle.reo_search.proofs.Named.{are_named}
use Rattle.reo_search.proofs.KnotSearch.{loops_those, loops_are_in}
use Rattle.reo_search.proofs.searching.weight.Goals as goal

pub narrow_all-requires-clause-closed : goal.narrow_all-requires-clause-closed
narrow_all-requires-clause-closed g c =
    (knot_among (net_of g.P.Primitive.behaviour c.args.circuit.now) c.args.knots.now c.args.knot c.sides-sides.result.now c.requires.knots c.requires.knot c.sides-sides.ensures).closed

pub narrow_all-requires-clause-sides : goal.narrow_all-requires-clause-sides
narrow_all-requires-clause-sides g c =
    among_real (net_of g.P.Primitive.behaviour c.args.circuit.now) c.args.knots.now c.args.knot c.sides-sides.result.now c.requires.knots c.requires.knot c.sides-sides.ensures

pub narrow_all-requires-clause-loops : goal.narrow_all-requires-clause-loops
narrow_all-requires-clause-loops g c =
    let net : Net = net_of g.P.Primitive.behaviour c.args.circuit.now in
    let wired = c.known.ensures.wired in
    let knots : Knotted = c.args.knots.now in
    let sides : List ℕ = c.sides-sides.result.now in
    let inside : ℕ → Bool = in_knot knots.numbers c.args.knot in
    let same : among sides ≡ inside = among_same net knots c.args.knot sides c.requires.knots c.requires.knot c.sides-sides.ensures in
    let knot_in : IsKnot net inside = c.requires.knots.are_knots c.args.knot c.requires.knot in
    let loops : List ℕ = c.loop_joints-loops.result.now in
    let those = loops_those net wired knots c.args.knot c.requires.knots c.requires.knot loops c.loop_joints-loops.ensures in
    let loops_in : AreLoopsIn net inside loops = loops_are_in net inside loops those in
    loops_in.in_range

pub returns : goal.returns
returns g c =
    let net : Net = net_of g.P.Primitive.behaviour c.args.circuit.now in
    let wired = c.known.ensures.wired in
    let knots : Knotted = c.args.knots.now in
    let sides : List ℕ = c.sides-sides.result.now in
    let inside : ℕ → Bool = in_knot knots.numbers c.args.knot in
    let same : among sides ≡ inside = among_same net knots c.args.knot sides c.requires.knots c.requires.knot c.sides-sides.ensures in
    let knot_in : IsKnot net inside = c.requires.knots.are_knots c.args.knot c.requires.knot in
    let supplied : Supplied = c.args.supply.now in
    let told : TellsItems net inside supplied = parts_told net wired inside knot_in.closed supplied (λ j is. c.requires.supply.reached j is.0) in
    let items : List (List Value) = c.lists-items.result.now in
    let names : Names = names_of items in
    let named : AreNamed net inside names =
    subst (λ (xs : List (List Value)). AreNamed net inside (names_of xs)) (sym c.lists-items.ensures)
    (are_named net inside supplied told c.requires.narrow (λ j is. (c.requires.supply.reached j is.0).distinct)) in
    let loops : List ℕ = c.loop_joints-loops.result.now in
    let those = loops_those net wired knots c.args.knot c.requires.knots c.requires.knot loops c.loop_joints-loops.ensures in
    let loops_in : AreLoopsIn net inside loops = loops_are_in net inside loops those in
    let left : List (List ℕ) = c.in_ok-left.left in
    let all : IsLeftOfAll net names inside c.narrow_all.new.state.alive = subst (λ (f : ℕ → Bool). IsLeftOfAll net names f c.narrow_all.new.state.alive) same c.in_ok-left.ensures.left in
    let codes = c.in_ok-left.ensures.codes in
    subst (IsWeight net inside) (sym c.weight_of.ensures) (weight_left net names inside named loops those loops_in c.narrow_all.new.state.alive all left codes)
