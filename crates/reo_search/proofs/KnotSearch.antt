-- The search of a knot.
use Rattle.std.proofs.Common.{◌≡◌, inl, inr, ◌↔◌, ℕ, ◌+◌, ◌-◌, ◌<◌, ◌≤◌, IsTrue, Bool, true, false, List, [], ◌∷◌, length, get_or, drop, ap, sym, ◌∙◌, subst, arith}
use Rattle.std.specs.Prelude.{nat_lt}
use Rattle.std.specs.Bool.{◌==◌}
use Rattle.std.proofs.lemmas.Bool.{and_parts, and_from, cases_Bool, eqb-true, lt-ltb, eq-eqb}
use Rattle.std.proofs.lemmas.List.{get_or_default, get_or-drop, get_or-map}
use Rattle.reo_net_base.specs.declared.joint.Joint.{Joint}
use Rattle.reo_net_base.specs.Wired.{NoCycle, IsWired, IsOrder}
use Rattle.reo_net_base.specs.Net.{Net, row_count, no_side, from_sides, to_sides, side_at}
use Rattle.reo_net_base.specs.Sides.{side_count}
use Rattle.reo_net_laws.specs.Parts.{IsKnot}
use Rattle.reo_net_laws.specs.Jams.{jams}
use Rattle.reo_net_laws.specs.Sublists.{sides_in}
use Rattle.reo_net_laws.proofs.Sides.{side_in_range}
use Rattle.reo_net_laws.proofs.Flows.{knot_jams_exactly}
use Rattle.reo_net_laws.specs.Knots.{Knotted, AreKnots, AreThose, IsLoop, IsLoopOf, in_knot, knot_count}
use Rattle.reo_reach.specs.Supplied.{Supplied, is_wide}
use Rattle.reo_joint_values.specs.Many.{IsJointIn}
use Rattle.reo_reach.specs.Width.{TellsItems}
use Rattle.reo_weights.specs.Widths.{IsWide}
use Rattle.reo_weights.specs.Weights.{AreNamed, all_values, IsWeight, capped}
use Rattle.reo_weights.proofs.WeightLemmas.{one_weight}
use Rattle.reo_joint_values.specs.Values.{Names, items_of, no_joint, giver_side}
use Rattle.reo_joint_values.specs.Chosen.{IsChosen, rows_of}
use Rattle.reo_joint_values.specs.Ties.{AreSides}
use Rattle.reo_side_tables.specs.Marks.{side_in}
use Rattle.reo_propagate.specs.Queues.{among}
use Rattle.reo_walk.specs.declared.part.Part.{Part}
use Rattle.reo_walk.specs.Places.{places_in}
use Rattle.reo_walk.specs.Arranged.{IsJamRow}
use Rattle.reo_search.specs.choices.Remaining.{AreLoopsIn, choices_of}
use Rattle.reo_search.specs.choices.Trying.{IsLeastOf}
use Rattle.reo_search.specs.First.{AreFirstRows, HasNoThreeColouring}
use Rattle.reo_walk.proofs.Knotted.{among_sides}
use Rattle.reo_walk.proofs.Resting.{among_at}
use Rattle.reo_search.proofs.choices.Counted.{capped_small}
use Rattle.reo_search.proofs.Named.{first_in, last_are_rows, last_are_those}

-- The loop joints of a knot.
module _ (net : Net) (wired : IsWired net) (knots : Knotted) (knot : ℕ) (are : AreKnots net knots) (lt : knot < knot_count knots) (loops : List ℕ) (is : loops ≡ get_or knots.loop_joints knot []) where
  those_of : AreThose (IsLoopOf net knots.numbers knot) loops
  those_of = subst (AreThose (IsLoopOf net knots.numbers knot)) (sym is) (are.loops_are knot [] lt)

  inside_of : (j : ℕ) → j < length net.joints → get_or knots.numbers (giver_side net j) 0 ≡ knot → in_knot knots.numbers knot (giver_side net j) ≡ true
  inside_of j j_lt number =
      let under = side_in_range net wired _ (wired.givers j no_joint j_lt) in
      and_from (nat_lt (giver_side net j) (length knots.numbers)) (get_or knots.numbers (giver_side net j) 0 == knot)
      (lt-ltb (giver_side net j) (length knots.numbers) (omega (arith, under, are.numbered.one_each)))
      (eq-eqb (get_or knots.numbers (giver_side net j) 0) knot number)

  loop_in : (j : ℕ) → IsLoopOf net knots.numbers knot j → IsJointIn net (in_knot knots.numbers knot) j × IsLoop net j
  loop_in j loop = ((loop.in_range, inside_of j loop.in_range (loop.here no_joint)), loop.closes)

  in_loop : (j : ℕ) → IsJointIn net (in_knot knots.numbers knot) j × IsLoop net j → IsLoopOf net knots.numbers knot j
  in_loop j h =
      let j_lt = h.0.0 in
      let number = eqb-true (get_or knots.numbers (giver_side net j) 0) knot (and_parts (nat_lt (giver_side net j) (length knots.numbers)) (get_or knots.numbers (giver_side net j) 0 == knot) h.0.1).1 in
      record {
        in_range = j_lt;
        closes = h.1;
        here = λ d. ap (λ (x : Joint). get_or knots.numbers (side_at net x.giver) 0) (get_or_default net.joints j d no_joint j_lt) ∙ number;
      }

  -- They are the joints of the knot that close loops.
  pub loops_those : AreThose (λ (j : ℕ). IsJointIn net (in_knot knots.numbers knot) j × IsLoop net j) loops
  loops_those = record {
    increasing = those_of.increasing;
    exact = λ j. (λ h. loop_in j ((those_of.exact j).0 h), λ h. (those_of.exact j).1 (in_loop j h));
  }

-- Loop joints, by what they are.
pub loops_are_in : (net : Net) (inside : ℕ → Bool) (loops : List ℕ) → AreThose (λ (j : ℕ). IsJointIn net inside j × IsLoop net j) loops → AreLoopsIn net inside loops
loops_are_in net inside loops those = record {
  in_range = λ m lt. (those_at m lt).0.0;
  here = λ m lt. (those_at m lt).0.1;
  whole = λ j lt is loop. (those.exact j).1 ((lt, is), loop);
}
  where
    those_at : (m : ℕ) → m < length loops → IsJointIn net inside (get_or loops m 0) × IsLoop net (get_or loops m 0)
    those_at m lt = (those.exact (get_or loops m 0)).0 (m, lt, get_or_default loops m (get_or loops m 0) 0 lt)

-- Wide, or not.
module _ (net : Net) (inside : ℕ → Bool) (supplied : Supplied) (told : TellsItems net inside supplied) where
  -- Where a joint is wide the set is.
  pub wide_set : (j : ℕ) × IsJointIn net inside j × (is_wide supplied j ≡ true) → IsWide net inside
  wide_set h = let many = told.wide.0 h in record { joint = many.0; is_joint = many.1; many = many.2 }

  -- Where none is wide the set is not.
  pub narrow_set : ((j : ℕ) × IsJointIn net inside j × (is_wide supplied j ≡ true) → ⊥) → IsWide net inside → ⊥
  narrow_set none w = none (told.wide.1 (w.joint, w.is_joint, w.many))

-- None of them is marked, then.
pub narrow_joints : (net : Net) (inside : ℕ → Bool) (supplied : Supplied) → ((j : ℕ) × IsJointIn net inside j × (is_wide supplied j ≡ true) → ⊥) → (j : ℕ) → IsJointIn net inside j → is_wide supplied j ≡ false
narrow_joints net inside supplied none j is = elim (cases_Bool (is_wide supplied j)) [
  | inl wide ↦ absurd (none (j, is, wide))
  | inr narrow ↦ narrow
]

-- The ticks are at most as many as the weight.
pub ticks_below : (net : Net) → IsWired net → (inside : ℕ → Bool) → IsKnot net inside → (left : List (List ℕ)) (weight budget start now : ℕ) → weight ≡ capped (choices_of left) → IsWeight net inside (capped (choices_of left))
    → weight ≤ budget → budget < 1000000000000000000 → now ≤ start + choices_of left → (w : ℕ) → IsWeight net inside w → now ≤ start + w
ticks_below net wired inside knot left weight budget start now is weighs few small ticks w other =
    let same : capped (choices_of left) ≡ w = one_weight net wired inside knot.closed (capped (choices_of left)) w weighs other in
    let under : capped (choices_of left) ≤ budget = subst (λ (n : ℕ). n ≤ budget) is few in
    let le : choices_of left ≤ capped (choices_of left) = capped_small (choices_of left) budget under small in
    let le_w : choices_of left ≤ w = subst (λ (n : ℕ). choices_of left ≤ n) same le in
    sum_less now start (choices_of left) w ticks le_w
  where
    sum_less : (now start n w : ℕ) → now ≤ start + n → n ≤ w → now ≤ start + w
    sum_less now start n w a b = omega arith

module _ (net : Net) (wired : IsWired net) (inside : ℕ → Bool) (knot : IsKnot net inside) (real : AreSides net inside) (sides : List ℕ) (sides_are : sides ≡ sides_in net inside) where
  below : (m : ℕ) → m < length (sides_in net inside) → get_or (sides_in net inside) m 0 < side_count net
  below m lt = real (get_or (sides_in net inside) m 0) (sym (among_sides net inside real (get_or (sides_in net inside) m 0)) ∙ among_at (sides_in net inside) m lt)

  side_inside : (m : ℕ) → m < length (sides_in net inside) → inside (get_or (sides_in net inside) m 0) ≡ true
  side_inside m lt = sym (among_sides net inside real (get_or (sides_in net inside) m 0)) ∙ among_at (sides_in net inside) m lt

  module _ (names : Names) (named : AreNamed net inside names) (no_cycle : NoCycle (from_sides net) (to_sides net)) (order : List ℕ) (is_order : IsOrder net order) (turn : ℕ)
      (chosen : List ℕ) (found : IsLeastOf (IsChosen net names inside (all_values names)) net turn (places_in net sides) chosen) where
    least : IsLeastOf (IsChosen net names inside (all_values names)) net turn (places_in net (sides_in net inside)) chosen
    least = subst (λ (xs : List ℕ). IsLeastOf (IsChosen net names inside (all_values names)) net turn (places_in net xs) chosen) sides_are found

    -- The last of the numbers are rows of their sides.
    pub rows_in_tables : (m : ℕ) → m < length sides → get_or chosen (length chosen - length sides + m) 0 < row_count (side_in net (get_or sides m 0))
    rows_in_tables m m_lt =
        let all : List ℕ = sides_in net inside in
        let lt : m < length all = omega (arith, m_lt, ap length sides_are) in
        let side : ℕ = get_or all m 0 in
        let row : get_or chosen (length chosen - length all + m) 0 ≡ least.rows side =
        sym (get_or-drop (length chosen - length all) chosen m 0)
        ∙ ap (λ (xs : List ℕ). get_or xs m 0) (last_are_those net wired names inside knot.closed real named no_cycle order is_order turn below chosen least)
        ∙ get_or-map least.rows all m 0 0 lt in
        let here : get_or chosen (length chosen - length all + m) 0 < row_count (side_in net side) = subst (λ (r : ℕ). r < row_count (side_in net side)) (sym row) ((least.is_of.fits side (side_inside m lt)).in_table no_side) in
        subst (λ (xs : List ℕ). get_or chosen (length chosen - length xs + m) 0 < row_count (side_in net (get_or xs m 0))) (sym sides_are) here

    -- A part of these rows.
    pub part_first : (part : Part) → part.sides ≡ sides → part.rows ≡ drop (length chosen - length sides) chosen
        → IsTrue part.jammed ↔ ((m : ℕ) × (m < length part.sides) × IsJamRow net (get_or part.sides m 0) (get_or part.rows m 0)) → AreFirstRows net inside turn part
    part_first part part_sides rows jammed = record {
      rows = rows_of net least.rows;
      items = items_of net names least.choice;
      first = first_in net wired names inside knot.closed real named no_cycle order is_order turn below chosen least;
      sides = part_sides ∙ sides_are;
      rows_are = rows ∙ ap (λ (xs : List ℕ). drop (length chosen - length xs) chosen) sides_are ∙ last_are_rows net wired names inside knot.closed real named no_cycle order is_order turn below chosen least;
      jammed = jammed;
    }

  -- It is jammed exactly where the knot has no colouring without a jam.
  module _ (turn : ℕ) (part : Part) (rows : AreFirstRows net inside turn part) where
    row_at : (m : ℕ) → m < length part.sides → get_or part.rows m 0 ≡ get_or rows.rows (get_or part.sides m 0) 0
    row_at m lt =
        let m_lt : m < length (sides_in net inside) = omega (arith, lt, ap length rows.sides) in
        ap (λ (xs : List ℕ). get_or xs m 0) rows.rows_are
        ∙ get_or-map (λ (s : ℕ). get_or rows.rows s 0) (sides_in net inside) m 0 0 m_lt
        ∙ ap (λ (xs : List ℕ). get_or rows.rows (get_or xs m 0) 0) (sym rows.sides)

    exact_at : (m : ℕ) → m < length part.sides → (jams net rows.rows (get_or part.sides m 0) ≡ true) ↔ HasNoThreeColouring net inside
    exact_at m lt =
        let m_lt : m < length (sides_in net inside) = omega (arith, lt, ap length rows.sides) in
        let here : inside (get_or part.sides m 0) ≡ true = subst (λ (xs : List ℕ). inside (get_or xs m 0) ≡ true) (sym rows.sides) (side_inside m m_lt) in
        knot_jams_exactly net wired inside knot turn rows.rows rows.items rows.first (get_or part.sides m 0) (real (get_or part.sides m 0) here) here

    jam_test : (m : ℕ) → m < length part.sides → IsJamRow net (get_or part.sides m 0) (get_or part.rows m 0) ↔ (jams net rows.rows (get_or part.sides m 0) ≡ true)
    jam_test m lt =
        let side : ℕ = get_or part.sides m 0 in
        let row : ℕ = get_or rows.rows side 0 in
        subst (λ (r : ℕ). IsJamRow net side r ↔ (jams net rows.rows side ≡ true)) (sym (row_at m lt))
        (λ h. eq-eqb (row + 1) (row_count (side_in net side)) h, λ h. eqb-true (row + 1) (row_count (side_in net side)) h)

    some : 0 < length part.sides
    some =
        let k = knot.some in
        subst (λ (xs : List ℕ). 0 < length xs) (sym rows.sides) (none_for (sides_in net inside) k.0 (among_sides net inside real k.0 ∙ k.2))
      where
        none_for : (xs : List ℕ) (s : ℕ) → among xs s ≡ true → 0 < length xs
        none_for [] s h = cc
        none_for (x ∷ xs) s h = omega arith

    -- Each side tells, and so one of them.
    pub jam_exact : IsTrue part.jammed ↔ HasNoThreeColouring net inside
    jam_exact = (
      λ t. let m = rows.jammed.0 t in (exact_at m.0 m.1).0 ((jam_test m.0 m.1).0 m.2),
      λ h. rows.jammed.1 (0, some, (jam_test 0 some).1 ((exact_at 0 some).1 h)),
    )
