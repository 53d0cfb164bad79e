use Rattle.std.proofs.Common.{◌≡◌, ℕ, Bool, true, false, List, refl, sym, ◌∙◌, subst}
use Rattle.reo_values.specs.declared.value.Value.{Value}
use Rattle.reo_net_base.specs.Net.{Net, net_of}
use Rattle.reo_net_laws.specs.Parts.{IsKnot}
use Rattle.reo_net_laws.specs.Knots.{Knotted, in_knot}
use Rattle.reo_reach.specs.Supplied.{Supplied, is_wide}
use Rattle.reo_joint_values.specs.Many.{IsJointIn}
use Rattle.reo_reach.specs.Width.{TellsItems}
use Rattle.reo_reach.proofs.WidthLemmas.{parts_told}
use Rattle.reo_weights.specs.Weights.{AreNamed, all_values, IsWeight, capped}
use Rattle.reo_joint_values.specs.Values.{Names}
use Rattle.reo_joint_values.specs.Chosen.{IsChosen}
use Rattle.reo_rows.specs.Sets.{names_of}
use Rattle.reo_propagate.specs.Queues.{among}
use Rattle.reo_walk.specs.declared.place.KeyPlace.{KeyPlace}
use Rattle.reo_walk.specs.Places.{places_in}
use Rattle.reo_search.specs.choices.Remaining.{AreLoopsIn, IsLeftOfAll, CoverAll, choices_of}
use Rattle.reo_search.specs.choices.Trying.{IsLeastOf}
use Rattle.reo_walk.proofs.Knotted.{AllOf, all_places}
use Rattle.reo_walk.proofs.Listing.{real, listed_sides, among_same, knot_among, among_real, each_real, some}
use Rattle.reo_search.proofs.choices.Remains.{covers, weight_left}
use Rattle.reo_search.proofs.Named.{are_named}
use Rattle.reo_search.proofs.KnotSearch.{loops_those, loops_are_in, wide_set, narrow_set, narrow_joints, ticks_below, rows_in_tables, part_first, jam_exact}
use Rattle.reo_search.proofs.searching.first_on.Goals as goal

pub has_wide-requires-clause-closed : goal.has_wide-requires-clause-closed
has_wide-requires-clause-closed g c =
    (knot_among (net_of g.P.Primitive.behaviour c.args.wanted.now.circuit.now) c.args.wanted.now.knots.now c.args.wanted.now.knot c.sides-sides.result.now c.requires.wanted.knots c.requires.wanted.knot c.sides-sides.ensures).closed

pub has_wide-requires-clause-sides : goal.has_wide-requires-clause-sides
has_wide-requires-clause-sides g c =
    among_real (net_of g.P.Primitive.behaviour c.args.wanted.now.circuit.now) c.args.wanted.now.knots.now c.args.wanted.now.knot c.sides-sides.result.now c.requires.wanted.knots c.requires.wanted.knot c.sides-sides.ensures

pub returns-then-has_wide-clause-exact : goal.returns-then-has_wide-clause-exact
returns-then-has_wide-clause-exact g c =
    let net : Net = net_of g.P.Primitive.behaviour c.args.wanted.now.circuit.now in
    let wired = c.known.ensures.wired in
    let knots : Knotted = c.args.wanted.now.knots.now in
    let sides : List ℕ = c.sides-sides.result.now in
    let inside : ℕ → Bool = in_knot knots.numbers c.args.wanted.now.knot in
    let same : among sides ≡ inside = among_same net knots c.args.wanted.now.knot sides c.requires.wanted.knots c.requires.wanted.knot c.sides-sides.ensures in
    let knot_in : IsKnot net inside = c.requires.wanted.knots.are_knots c.args.wanted.now.knot c.requires.wanted.knot in
    let supplied : Supplied = c.args.wanted.now.supply.now in
    let told : TellsItems net inside supplied = parts_told net wired inside knot_in.closed supplied c.requires.reached in
    let wide = c.has_wide.ensures.0 c.if-has_wide.true in
    (refl, wide_set net inside supplied told (wide.0, subst (λ (f : ℕ → Bool). IsJointIn net f wide.0) same wide.1, wide.2))

pub restart-requires-clause-sides : goal.restart-requires-clause-sides
restart-requires-clause-sides g c =
    among_real (net_of g.P.Primitive.behaviour c.args.wanted.now.circuit.now) c.args.wanted.now.knots.now c.args.wanted.now.knot c.sides-sides.result.now c.requires.wanted.knots c.requires.wanted.knot c.sides-sides.ensures

pub narrow_all-requires-clause-closed : goal.narrow_all-requires-clause-closed
narrow_all-requires-clause-closed g c =
    (knot_among (net_of g.P.Primitive.behaviour c.args.wanted.now.circuit.now) c.args.wanted.now.knots.now c.args.wanted.now.knot c.sides-sides.result.now c.requires.wanted.knots c.requires.wanted.knot c.sides-sides.ensures).closed

pub narrow_all-requires-clause-sides : goal.narrow_all-requires-clause-sides
narrow_all-requires-clause-sides g c =
    among_real (net_of g.P.Primitive.behaviour c.args.wanted.now.circuit.now) c.args.wanted.now.knots.now c.args.wanted.now.knot c.sides-sides.result.now c.requires.wanted.knots c.requires.wanted.knot c.sides-sides.ensures

pub narrow_all-requires-clause-loops : goal.narrow_all-requires-clause-loops
narrow_all-requires-clause-loops g c =
    let net : Net = net_of g.P.Primitive.behaviour c.args.wanted.now.circuit.now in
    let wired = c.known.ensures.wired in
    let knots : Knotted = c.args.wanted.now.knots.now in
    let sides : List ℕ = c.sides-sides.result.now in
    let inside : ℕ → Bool = in_knot knots.numbers c.args.wanted.now.knot in
    let same : among sides ≡ inside = among_same net knots c.args.wanted.now.knot sides c.requires.wanted.knots c.requires.wanted.knot c.sides-sides.ensures in
    let knot_in : IsKnot net inside = c.requires.wanted.knots.are_knots c.args.wanted.now.knot c.requires.wanted.knot in
    let loops : List ℕ = c.loop_joints-loops.result.now in
    let those = loops_those net wired knots c.args.wanted.now.knot c.requires.wanted.knots c.requires.wanted.knot loops c.loop_joints-loops.ensures in
    let loops_in : AreLoopsIn net inside loops = loops_are_in net inside loops those in
    loops_in.in_range

pub returns-then-weight-budget-clause-exact : goal.returns-then-weight-budget-clause-exact
returns-then-weight-budget-clause-exact g c =
    let net : Net = net_of g.P.Primitive.behaviour c.args.wanted.now.circuit.now in
    let wired = c.known.ensures.wired in
    let knots : Knotted = c.args.wanted.now.knots.now in
    let sides : List ℕ = c.sides-sides.result.now in
    let inside : ℕ → Bool = in_knot knots.numbers c.args.wanted.now.knot in
    let same : among sides ≡ inside = among_same net knots c.args.wanted.now.knot sides c.requires.wanted.knots c.requires.wanted.knot c.sides-sides.ensures in
    let knot_in : IsKnot net inside = c.requires.wanted.knots.are_knots c.args.wanted.now.knot c.requires.wanted.knot in
    let supplied : Supplied = c.args.wanted.now.supply.now in
    let told : TellsItems net inside supplied = parts_told net wired inside knot_in.closed supplied c.requires.reached in
    let none : (j : ℕ) × IsJointIn net inside j × (is_wide supplied j ≡ true) → ⊥ =
    λ h. (let wide : true ≡ false = sym (c.has_wide.ensures.1 (h.0, subst (λ (f : ℕ → Bool). IsJointIn net f h.0) (sym same) h.1, h.2)) ∙ c.if-has_wide.false in cc) in
    let items : List (List Value) = c.lists-items.result.now in
    let names : Names = names_of items in
    let named : AreNamed net inside names =
    subst (λ (xs : List (List Value)). AreNamed net inside (names_of xs)) (sym c.lists-items.ensures)
    (are_named net inside supplied told (narrow_joints net inside supplied none) (λ j is. (c.requires.reached j is).distinct)) in
    let loops : List ℕ = c.loop_joints-loops.result.now in
    let those = loops_those net wired knots c.args.wanted.now.knot c.requires.wanted.knots c.requires.wanted.knot loops c.loop_joints-loops.ensures in
    let loops_in : AreLoopsIn net inside loops = loops_are_in net inside loops those in
    let left : List (List ℕ) = c.in_ok-left.left in
    let all : IsLeftOfAll net names inside c.narrow_all.new.state.alive = subst (λ (f : ℕ → Bool). IsLeftOfAll net names f c.narrow_all.new.state.alive) same c.in_ok-left.ensures.left in
    let codes = c.in_ok-left.ensures.codes in
    let weighs : IsWeight net inside (capped (choices_of left)) = weight_left net names inside named loops those loops_in c.narrow_all.new.state.alive all left codes in
    let weight_is : c.weight_of-weight.result ≡ capped (choices_of left) = c.weight_of-weight.ensures in
    (refl, refl, record { narrow = narrow_set net inside supplied told none; weighs = subst (IsWeight net inside) (sym weight_is) weighs; many = c.if-weight-budget.true })

pub places_of-requires : goal.places_of-requires
places_of-requires g c =
    each_real (net_of g.P.Primitive.behaviour c.args.wanted.now.circuit.now) c.args.wanted.now.knots.now c.args.wanted.now.knot c.sides-sides.result.now c.requires.wanted.knots c.requires.wanted.knot c.sides-sides.ensures

pub first_numbers-requires-clause-searched : goal.first_numbers-requires-clause-searched
first_numbers-requires-clause-searched g c =
    let net : Net = net_of g.P.Primitive.behaviour c.args.wanted.now.circuit.now in
    let knots : Knotted = c.args.wanted.now.knots.now in
    let sides : List ℕ = c.sides-sides.result.now in
    let same : among sides ≡ in_knot knots.numbers c.args.wanted.now.knot = among_same net knots c.args.wanted.now.knot sides c.requires.wanted.knots c.requires.wanted.knot c.sides-sides.ensures in
    let loops : List ℕ = c.loop_joints-loops.result.now in
    let those = loops_those net c.known.ensures.wired knots c.args.wanted.now.knot c.requires.wanted.knots c.requires.wanted.knot loops c.loop_joints-loops.ensures in
    let places_are : c.as_slice.result.now ≡ places_in net sides = c.as_slice.ensures ∙ c.in_ok-places.ensures in
    record {
      knot = knot_among net knots c.args.wanted.now.knot sides c.requires.wanted.knots c.requires.wanted.knot c.sides-sides.ensures;
      sides_are = among_real net knots c.args.wanted.now.knot sides c.requires.wanted.knots c.requires.wanted.knot c.sides-sides.ensures;
      some_side = some net knots c.args.wanted.now.knot sides c.requires.wanted.knots c.requires.wanted.knot c.sides-sides.ensures;
      places_are = subst (AllOf sides) (sym places_are) (all_places net sides);
      loops_are = subst (λ (f : ℕ → Bool). AreLoopsIn net f loops) (sym same) (loops_are_in net (in_knot knots.numbers c.args.wanted.now.knot) loops those);
    }

pub first_numbers-requires-clause-left : goal.first_numbers-requires-clause-left
first_numbers-requires-clause-left g c =
    let net : Net = net_of g.P.Primitive.behaviour c.args.wanted.now.circuit.now in
    let knots : Knotted = c.args.wanted.now.knots.now in
    let sides : List ℕ = c.sides-sides.result.now in
    let inside : ℕ → Bool = in_knot knots.numbers c.args.wanted.now.knot in
    let same : among sides ≡ inside = among_same net knots c.args.wanted.now.knot sides c.requires.wanted.knots c.requires.wanted.knot c.sides-sides.ensures in
    let names : Names = names_of c.lists-items.result.now in
    let loops : List ℕ = c.loop_joints-loops.result.now in
    let those = loops_those net c.known.ensures.wired knots c.args.wanted.now.knot c.requires.wanted.knots c.requires.wanted.knot loops c.loop_joints-loops.ensures in
    let loops_in : AreLoopsIn net inside loops = loops_are_in net inside loops those in
    let left : List (List ℕ) = c.in_ok-left.left in
    let all : IsLeftOfAll net names inside c.narrow_all.new.state.alive = subst (λ (f : ℕ → Bool). IsLeftOfAll net names f c.narrow_all.new.state.alive) same c.in_ok-left.ensures.left in
    record {
      of_all = c.in_ok-left.ensures.left;
      one_each = c.in_ok-left.ensures.codes.one_each;
      cover = subst (λ (f : ℕ → Bool). CoverAll net names f loops left) (sym same) (covers net names inside c.narrow_all.new.state.alive all loops loops_in left c.in_ok-left.ensures.codes);
    }

pub returns-in_err-chosen-clause-ticks : goal.returns-in_err-chosen-clause-ticks
returns-in_err-chosen-clause-ticks g c =
    let net : Net = net_of g.P.Primitive.behaviour c.args.wanted.now.circuit.now in
    let wired = c.known.ensures.wired in
    let knots : Knotted = c.args.wanted.now.knots.now in
    let sides : List ℕ = c.sides-sides.result.now in
    let inside : ℕ → Bool = in_knot knots.numbers c.args.wanted.now.knot in
    let same : among sides ≡ inside = among_same net knots c.args.wanted.now.knot sides c.requires.wanted.knots c.requires.wanted.knot c.sides-sides.ensures in
    let knot_in : IsKnot net inside = c.requires.wanted.knots.are_knots c.args.wanted.now.knot c.requires.wanted.knot in
    let supplied : Supplied = c.args.wanted.now.supply.now in
    let told : TellsItems net inside supplied = parts_told net wired inside knot_in.closed supplied c.requires.reached in
    let none : (j : ℕ) × IsJointIn net inside j × (is_wide supplied j ≡ true) → ⊥ =
    λ h. (let wide : true ≡ false = sym (c.has_wide.ensures.1 (h.0, subst (λ (f : ℕ → Bool). IsJointIn net f h.0) (sym same) h.1, h.2)) ∙ c.if-has_wide.false in cc) in
    let items : List (List Value) = c.lists-items.result.now in
    let names : Names = names_of items in
    let named : AreNamed net inside names =
    subst (λ (xs : List (List Value)). AreNamed net inside (names_of xs)) (sym c.lists-items.ensures)
    (are_named net inside supplied told (narrow_joints net inside supplied none) (λ j is. (c.requires.reached j is).distinct)) in
    let loops : List ℕ = c.loop_joints-loops.result.now in
    let those = loops_those net wired knots c.args.wanted.now.knot c.requires.wanted.knots c.requires.wanted.knot loops c.loop_joints-loops.ensures in
    let loops_in : AreLoopsIn net inside loops = loops_are_in net inside loops those in
    let left : List (List ℕ) = c.in_ok-left.left in
    let all : IsLeftOfAll net names inside c.narrow_all.new.state.alive = subst (λ (f : ℕ → Bool). IsLeftOfAll net names f c.narrow_all.new.state.alive) same c.in_ok-left.ensures.left in
    let codes = c.in_ok-left.ensures.codes in
    let weighs : IsWeight net inside (capped (choices_of left)) = weight_left net names inside named loops those loops_in c.narrow_all.new.state.alive all left codes in
    let weight_is : c.weight_of-weight.result ≡ capped (choices_of left) = c.weight_of-weight.ensures in
    ticks_below net wired inside knot_in left c.weight_of-weight.result c.args.budget c.args.steps.now c.first_numbers.new.steps weight_is weighs c.if-weight-budget.false c.requires.budget c.first_numbers.ensures.ticks

pub part_of-requires-clause-sides : goal.part_of-requires-clause-sides
part_of-requires-clause-sides g c =
    each_real (net_of g.P.Primitive.behaviour c.args.wanted.now.circuit.now) c.args.wanted.now.knots.now c.args.wanted.now.knot c.sides-sides.result.now c.requires.wanted.knots c.requires.wanted.knot c.sides-sides.ensures

pub part_of-requires-clause-in_tables : goal.part_of-requires-clause-in_tables
part_of-requires-clause-in_tables g c =
    let net : Net = net_of g.P.Primitive.behaviour c.args.wanted.now.circuit.now in
    let wired = c.known.ensures.wired in
    let knots : Knotted = c.args.wanted.now.knots.now in
    let sides : List ℕ = c.sides-sides.result.now in
    let inside : ℕ → Bool = in_knot knots.numbers c.args.wanted.now.knot in
    let same : among sides ≡ inside = among_same net knots c.args.wanted.now.knot sides c.requires.wanted.knots c.requires.wanted.knot c.sides-sides.ensures in
    let knot_in : IsKnot net inside = c.requires.wanted.knots.are_knots c.args.wanted.now.knot c.requires.wanted.knot in
    let supplied : Supplied = c.args.wanted.now.supply.now in
    let told : TellsItems net inside supplied = parts_told net wired inside knot_in.closed supplied c.requires.reached in
    let none : (j : ℕ) × IsJointIn net inside j × (is_wide supplied j ≡ true) → ⊥ =
    λ h. (let wide : true ≡ false = sym (c.has_wide.ensures.1 (h.0, subst (λ (f : ℕ → Bool). IsJointIn net f h.0) (sym same) h.1, h.2)) ∙ c.if-has_wide.false in cc) in
    let items : List (List Value) = c.lists-items.result.now in
    let names : Names = names_of items in
    let named : AreNamed net inside names =
    subst (λ (xs : List (List Value)). AreNamed net inside (names_of xs)) (sym c.lists-items.ensures)
    (are_named net inside supplied told (narrow_joints net inside supplied none) (λ j is. (c.requires.reached j is).distinct)) in
    let places_are : c.as_slice.result.now ≡ places_in net sides = c.as_slice.ensures ∙ c.in_ok-places.ensures in
    let chosen : List ℕ = c.as_slice-2.result.now in
    let chosen_is : chosen ≡ c.in_ok-chosen.chosen = c.as_slice-2.ensures in
    let found : IsLeastOf (IsChosen net names inside (all_values names)) net c.args.wanted.now.turn (places_in net sides) chosen =
    subst (λ (f : ℕ → Bool). IsLeastOf (IsChosen net names f (all_values names)) net c.args.wanted.now.turn (places_in net sides) chosen) same
    (subst (λ (ps : List KeyPlace). IsLeastOf (IsChosen net names (among sides) (all_values names)) net c.args.wanted.now.turn ps chosen) places_are
    (subst (λ (ns : List ℕ). IsLeastOf (IsChosen net names (among sides) (all_values names)) net c.args.wanted.now.turn c.as_slice.result.now ns) (sym chosen_is) c.in_ok-chosen.ensures.first)) in
    let sides_are = listed_sides net knots c.args.wanted.now.knot sides c.requires.wanted.knots c.requires.wanted.knot c.sides-sides.ensures in
    let real_in = real net knots c.args.wanted.now.knot sides c.requires.wanted.knots c.requires.wanted.knot c.sides-sides.ensures in
    rows_in_tables net wired inside knot_in real_in sides sides_are names named c.known.ensures.no_cycle c.order-order.result.now c.order-order.ensures c.args.wanted.now.turn chosen found

pub returns-in_err-part_of-clause-ticks : goal.returns-in_err-part_of-clause-ticks
returns-in_err-part_of-clause-ticks g c =
    let net : Net = net_of g.P.Primitive.behaviour c.args.wanted.now.circuit.now in
    let wired = c.known.ensures.wired in
    let knots : Knotted = c.args.wanted.now.knots.now in
    let sides : List ℕ = c.sides-sides.result.now in
    let inside : ℕ → Bool = in_knot knots.numbers c.args.wanted.now.knot in
    let same : among sides ≡ inside = among_same net knots c.args.wanted.now.knot sides c.requires.wanted.knots c.requires.wanted.knot c.sides-sides.ensures in
    let knot_in : IsKnot net inside = c.requires.wanted.knots.are_knots c.args.wanted.now.knot c.requires.wanted.knot in
    let supplied : Supplied = c.args.wanted.now.supply.now in
    let told : TellsItems net inside supplied = parts_told net wired inside knot_in.closed supplied c.requires.reached in
    let none : (j : ℕ) × IsJointIn net inside j × (is_wide supplied j ≡ true) → ⊥ =
    λ h. (let wide : true ≡ false = sym (c.has_wide.ensures.1 (h.0, subst (λ (f : ℕ → Bool). IsJointIn net f h.0) (sym same) h.1, h.2)) ∙ c.if-has_wide.false in cc) in
    let items : List (List Value) = c.lists-items.result.now in
    let names : Names = names_of items in
    let named : AreNamed net inside names =
    subst (λ (xs : List (List Value)). AreNamed net inside (names_of xs)) (sym c.lists-items.ensures)
    (are_named net inside supplied told (narrow_joints net inside supplied none) (λ j is. (c.requires.reached j is).distinct)) in
    let loops : List ℕ = c.loop_joints-loops.result.now in
    let those = loops_those net wired knots c.args.wanted.now.knot c.requires.wanted.knots c.requires.wanted.knot loops c.loop_joints-loops.ensures in
    let loops_in : AreLoopsIn net inside loops = loops_are_in net inside loops those in
    let left : List (List ℕ) = c.in_ok-left.left in
    let all : IsLeftOfAll net names inside c.narrow_all.new.state.alive = subst (λ (f : ℕ → Bool). IsLeftOfAll net names f c.narrow_all.new.state.alive) same c.in_ok-left.ensures.left in
    let codes = c.in_ok-left.ensures.codes in
    let weighs : IsWeight net inside (capped (choices_of left)) = weight_left net names inside named loops those loops_in c.narrow_all.new.state.alive all left codes in
    let weight_is : c.weight_of-weight.result ≡ capped (choices_of left) = c.weight_of-weight.ensures in
    ticks_below net wired inside knot_in left c.weight_of-weight.result c.args.budget c.args.steps.now c.first_numbers.new.steps weight_is weighs c.if-weight-budget.false c.requires.budget c.first_numbers.ensures.ticks

pub returns-clause-exact : goal.returns-clause-exact
returns-clause-exact g c =
    let net : Net = net_of g.P.Primitive.behaviour c.args.wanted.now.circuit.now in
    let wired = c.known.ensures.wired in
    let knots : Knotted = c.args.wanted.now.knots.now in
    let sides : List ℕ = c.sides-sides.result.now in
    let inside : ℕ → Bool = in_knot knots.numbers c.args.wanted.now.knot in
    let same : among sides ≡ inside = among_same net knots c.args.wanted.now.knot sides c.requires.wanted.knots c.requires.wanted.knot c.sides-sides.ensures in
    let knot_in : IsKnot net inside = c.requires.wanted.knots.are_knots c.args.wanted.now.knot c.requires.wanted.knot in
    let supplied : Supplied = c.args.wanted.now.supply.now in
    let told : TellsItems net inside supplied = parts_told net wired inside knot_in.closed supplied c.requires.reached in
    let none : (j : ℕ) × IsJointIn net inside j × (is_wide supplied j ≡ true) → ⊥ =
    λ h. (let wide : true ≡ false = sym (c.has_wide.ensures.1 (h.0, subst (λ (f : ℕ → Bool). IsJointIn net f h.0) (sym same) h.1, h.2)) ∙ c.if-has_wide.false in cc) in
    let items : List (List Value) = c.lists-items.result.now in
    let names : Names = names_of items in
    let named : AreNamed net inside names =
    subst (λ (xs : List (List Value)). AreNamed net inside (names_of xs)) (sym c.lists-items.ensures)
    (are_named net inside supplied told (narrow_joints net inside supplied none) (λ j is. (c.requires.reached j is).distinct)) in
    let loops : List ℕ = c.loop_joints-loops.result.now in
    let those = loops_those net wired knots c.args.wanted.now.knot c.requires.wanted.knots c.requires.wanted.knot loops c.loop_joints-loops.ensures in
    let loops_in : AreLoopsIn net inside loops = loops_are_in net inside loops those in
    let left : List (List ℕ) = c.in_ok-left.left in
    let all : IsLeftOfAll net names inside c.narrow_all.new.state.alive = subst (λ (f : ℕ → Bool). IsLeftOfAll net names f c.narrow_all.new.state.alive) same c.in_ok-left.ensures.left in
    let codes = c.in_ok-left.ensures.codes in
    let weighs : IsWeight net inside (capped (choices_of left)) = weight_left net names inside named loops those loops_in c.narrow_all.new.state.alive all left codes in
    let weight_is : c.weight_of-weight.result ≡ capped (choices_of left) = c.weight_of-weight.ensures in
    let places_are : c.as_slice.result.now ≡ places_in net sides = c.as_slice.ensures ∙ c.in_ok-places.ensures in
    let chosen : List ℕ = c.as_slice-2.result.now in
    let chosen_is : chosen ≡ c.in_ok-chosen.chosen = c.as_slice-2.ensures in
    let found : IsLeastOf (IsChosen net names inside (all_values names)) net c.args.wanted.now.turn (places_in net sides) chosen =
    subst (λ (f : ℕ → Bool). IsLeastOf (IsChosen net names f (all_values names)) net c.args.wanted.now.turn (places_in net sides) chosen) same
    (subst (λ (ps : List KeyPlace). IsLeastOf (IsChosen net names (among sides) (all_values names)) net c.args.wanted.now.turn ps chosen) places_are
    (subst (λ (ns : List ℕ). IsLeastOf (IsChosen net names (among sides) (all_values names)) net c.args.wanted.now.turn c.as_slice.result.now ns) (sym chosen_is) c.in_ok-chosen.ensures.first)) in
    let sides_are = listed_sides net knots c.args.wanted.now.knot sides c.requires.wanted.knots c.requires.wanted.knot c.sides-sides.ensures in
    let real_in = real net knots c.args.wanted.now.knot sides c.requires.wanted.knots c.requires.wanted.knot c.sides-sides.ensures in
    let part = c.in_ok-part_of.field-0 in
    let first = part_first net wired inside knot_in real_in sides sides_are names named c.known.ensures.no_cycle c.order-order.result.now c.order-order.ensures c.args.wanted.now.turn chosen found
    part c.in_ok-part_of.ensures.sides c.in_ok-part_of.ensures.rows c.in_ok-part_of.ensures.jammed in
    record {
      within = record { narrow = narrow_set net inside supplied told none; weight = c.weight_of-weight.result; weighs = subst (IsWeight net inside) (sym weight_is) weighs; few = c.if-weight-budget.false };
      first = first;
    }

pub returns-clause-jammed : goal.returns-clause-jammed
returns-clause-jammed g c =
    let net : Net = net_of g.P.Primitive.behaviour c.args.wanted.now.circuit.now in
    let wired = c.known.ensures.wired in
    let knots : Knotted = c.args.wanted.now.knots.now in
    let sides : List ℕ = c.sides-sides.result.now in
    let inside : ℕ → Bool = in_knot knots.numbers c.args.wanted.now.knot in
    let same : among sides ≡ inside = among_same net knots c.args.wanted.now.knot sides c.requires.wanted.knots c.requires.wanted.knot c.sides-sides.ensures in
    let knot_in : IsKnot net inside = c.requires.wanted.knots.are_knots c.args.wanted.now.knot c.requires.wanted.knot in
    let supplied : Supplied = c.args.wanted.now.supply.now in
    let told : TellsItems net inside supplied = parts_told net wired inside knot_in.closed supplied c.requires.reached in
    let none : (j : ℕ) × IsJointIn net inside j × (is_wide supplied j ≡ true) → ⊥ =
    λ h. (let wide : true ≡ false = sym (c.has_wide.ensures.1 (h.0, subst (λ (f : ℕ → Bool). IsJointIn net f h.0) (sym same) h.1, h.2)) ∙ c.if-has_wide.false in cc) in
    let items : List (List Value) = c.lists-items.result.now in
    let names : Names = names_of items in
    let named : AreNamed net inside names =
    subst (λ (xs : List (List Value)). AreNamed net inside (names_of xs)) (sym c.lists-items.ensures)
    (are_named net inside supplied told (narrow_joints net inside supplied none) (λ j is. (c.requires.reached j is).distinct)) in
    let places_are : c.as_slice.result.now ≡ places_in net sides = c.as_slice.ensures ∙ c.in_ok-places.ensures in
    let chosen : List ℕ = c.as_slice-2.result.now in
    let chosen_is : chosen ≡ c.in_ok-chosen.chosen = c.as_slice-2.ensures in
    let found : IsLeastOf (IsChosen net names inside (all_values names)) net c.args.wanted.now.turn (places_in net sides) chosen =
    subst (λ (f : ℕ → Bool). IsLeastOf (IsChosen net names f (all_values names)) net c.args.wanted.now.turn (places_in net sides) chosen) same
    (subst (λ (ps : List KeyPlace). IsLeastOf (IsChosen net names (among sides) (all_values names)) net c.args.wanted.now.turn ps chosen) places_are
    (subst (λ (ns : List ℕ). IsLeastOf (IsChosen net names (among sides) (all_values names)) net c.args.wanted.now.turn c.as_slice.result.now ns) (sym chosen_is) c.in_ok-chosen.ensures.first)) in
    let sides_are = listed_sides net knots c.args.wanted.now.knot sides c.requires.wanted.knots c.requires.wanted.knot c.sides-sides.ensures in
    let real_in = real net knots c.args.wanted.now.knot sides c.requires.wanted.knots c.requires.wanted.knot c.sides-sides.ensures in
    let part = c.in_ok-part_of.field-0 in
    let first = part_first net wired inside knot_in real_in sides sides_are names named c.known.ensures.no_cycle c.order-order.result.now c.order-order.ensures c.args.wanted.now.turn chosen found
    part c.in_ok-part_of.ensures.sides c.in_ok-part_of.ensures.rows c.in_ok-part_of.ensures.jammed in
    jam_exact net wired inside knot_in real_in sides sides_are c.args.wanted.now.turn part first

pub returns-clause-ticks : goal.returns-clause-ticks
returns-clause-ticks g c =
    let net : Net = net_of g.P.Primitive.behaviour c.args.wanted.now.circuit.now in
    let wired = c.known.ensures.wired in
    let knots : Knotted = c.args.wanted.now.knots.now in
    let sides : List ℕ = c.sides-sides.result.now in
    let inside : ℕ → Bool = in_knot knots.numbers c.args.wanted.now.knot in
    let same : among sides ≡ inside = among_same net knots c.args.wanted.now.knot sides c.requires.wanted.knots c.requires.wanted.knot c.sides-sides.ensures in
    let knot_in : IsKnot net inside = c.requires.wanted.knots.are_knots c.args.wanted.now.knot c.requires.wanted.knot in
    let supplied : Supplied = c.args.wanted.now.supply.now in
    let told : TellsItems net inside supplied = parts_told net wired inside knot_in.closed supplied c.requires.reached in
    let none : (j : ℕ) × IsJointIn net inside j × (is_wide supplied j ≡ true) → ⊥ =
    λ h. (let wide : true ≡ false = sym (c.has_wide.ensures.1 (h.0, subst (λ (f : ℕ → Bool). IsJointIn net f h.0) (sym same) h.1, h.2)) ∙ c.if-has_wide.false in cc) in
    let items : List (List Value) = c.lists-items.result.now in
    let names : Names = names_of items in
    let named : AreNamed net inside names =
    subst (λ (xs : List (List Value)). AreNamed net inside (names_of xs)) (sym c.lists-items.ensures)
    (are_named net inside supplied told (narrow_joints net inside supplied none) (λ j is. (c.requires.reached j is).distinct)) in
    let loops : List ℕ = c.loop_joints-loops.result.now in
    let those = loops_those net wired knots c.args.wanted.now.knot c.requires.wanted.knots c.requires.wanted.knot loops c.loop_joints-loops.ensures in
    let loops_in : AreLoopsIn net inside loops = loops_are_in net inside loops those in
    let left : List (List ℕ) = c.in_ok-left.left in
    let all : IsLeftOfAll net names inside c.narrow_all.new.state.alive = subst (λ (f : ℕ → Bool). IsLeftOfAll net names f c.narrow_all.new.state.alive) same c.in_ok-left.ensures.left in
    let codes = c.in_ok-left.ensures.codes in
    let weighs : IsWeight net inside (capped (choices_of left)) = weight_left net names inside named loops those loops_in c.narrow_all.new.state.alive all left codes in
    let weight_is : c.weight_of-weight.result ≡ capped (choices_of left) = c.weight_of-weight.ensures in
    ticks_below net wired inside knot_in left c.weight_of-weight.result c.args.budget c.args.steps.now c.first_numbers.new.steps weight_is weighs c.if-weight-budget.false c.requires.budget c.first_numbers.ensures.ticks
