-- The sides of a knot, their family, and what is found there by values.
use Rattle.std.proofs.Common.{◌≡◌, ◌↔◌, inl, inr, ℕ, zero, suc, ◌+◌, ◌-◌, ◌<◌, Bool, true, false, IsTrue, List, [], ◌∷◌, length, get_or, drop, refl, ap, sym, ◌∙◌, subst, arith}
use Rattle.std.specs.Prelude.{map, nat_lt}
use Rattle.std.specs.Bool.{◌==◌}
use Rattle.std.proofs.Math.ListN.{get_or-eq_default}
use Rattle.std.proofs.lemmas.Bool.{cases_lt, and_parts, both_ways, ltb-true}
use Rattle.std.proofs.lemmas.List.{get_or-drop}
use Rattle.reo_values.specs.declared.value.Value.{Value}
use Rattle.reo_net_base.specs.Net.{Net, row_count, no_side}
use Rattle.reo_net_base.specs.Sides.{side_count}
use Rattle.reo_net_base.specs.Wired.{IsWired, IsOrder}
use Rattle.reo_net_laws.specs.Parts.{IsKnot}
use Rattle.reo_net_laws.specs.Sublists.{sides_in}
use Rattle.reo_net_laws.specs.Knots.{Knotted, AreKnots, in_knot, knot_count}
use Rattle.reo_joint_values.specs.declared.value.JointValue.{JointValue}
use Rattle.reo_joint_values.specs.Values.{Family, items_of, giver_side}
use Rattle.reo_joint_values.specs.Chosen.{rows_of}
use Rattle.reo_support.specs.Sets.{OneAtLoops}
use Rattle.reo_joint_values.specs.Ties.{AreSides}
use Rattle.reo_side_tables.specs.Marks.{side_in}
use Rattle.reo_side_tables.specs.declared.board.Board.{Board}
use Rattle.reo_rows.specs.Sets.{code_of, family_of, names_of, IsReady}
use Rattle.reo_propagate.specs.Queues.{among}
use Rattle.reo_propagate.specs.ListedSets.{AreInSupply}
use Rattle.reo_walk.specs.declared.part.Part.{Part}
use Rattle.reo_walk.specs.Places.{places_in}
use Rattle.reo_walk.specs.Settling.{HasNone, IsFirstWith}
use Rattle.reo_walk.specs.Arranged.{HasNoAssignment, IsFirstPart, IsJamRow}
use Rattle.reo_walk.proofs.Resting.{among_at}
use Rattle.reo_walk.proofs.Knotted.{among_is, some_side}
use Rattle.reo_walk.proofs.Firsts.{none_of_sets, assigned, none_before, last_are, last_rows_are}

pub mapped_at : (f : ℕ → ℕ) (xs : List ℕ) (m : ℕ) → m < length xs → get_or (map f xs) m 0 ≡ f (get_or xs m 0)
mapped_at f [] m lt = absurd (omega arith)
mapped_at f (x ∷ xs) zero lt = refl
mapped_at f (x ∷ xs) (suc m) lt = mapped_at f xs m (omega arith)

-- The list of the sides of a knot.
module _ (net : Net) (knots : Knotted) (knot : ℕ) (sides : List ℕ) (are : AreKnots net knots) (lt : knot < knot_count knots) (is : sides ≡ get_or knots.sides knot []) where
  abbrev inside : ℕ → Bool
  inside = in_knot knots.numbers knot

  pub real : AreSides net (in_knot knots.numbers knot)
  real s h =
      let under : s < length knots.numbers = ltb-true s (length knots.numbers) (and_parts (nat_lt s (length knots.numbers)) (get_or knots.numbers s 0 == knot) h).0 in
      omega (arith, under, are.numbered.one_each)

  pub listed_sides : sides ≡ sides_in net (in_knot knots.numbers knot)
  listed_sides = is ∙ are.sides_are knot [] lt

  pub among_same : among sides ≡ in_knot knots.numbers knot
  among_same = ap among listed_sides ∙ among_is net inside real

  pub knot_among : IsKnot net (among sides)
  knot_among = subst (IsKnot net) (sym among_same) (are.are_knots knot lt)

  pub among_real : (s : ℕ) → among sides s ≡ true → s < side_count net
  among_real s h = real s (sym (λ i. among_same i s) ∙ h)

  pub each_real : (m : ℕ) → m < length sides → get_or sides m 0 < side_count net
  each_real m m_lt = among_real (get_or sides m 0) (among_at sides m m_lt)

  listed_real : (m : ℕ) → m < length (sides_in net (in_knot knots.numbers knot)) → get_or (sides_in net (in_knot knots.numbers knot)) m 0 < side_count net
  listed_real = subst (λ (xs : List ℕ). (m : ℕ) → m < length xs → get_or xs m 0 < side_count net) listed_sides each_real

  pub some : 0 < length sides
  some =
      let k = (are.are_knots knot lt).some in
      subst (λ (xs : List ℕ). 0 < length xs) (sym listed_sides) (some_side net inside real k.0 k.2)

  module _ (wired : IsWired net) (boards : List Board) (ends : List (List ℕ)) (items : List (List Value)) (alive : List (List Bool)) (ready : IsReady net boards ends items alive) (sets : Family)
      (values : (j : ℕ) (v : JointValue) → j < length net.joints → code_of v < length (get_or items j []) + 4 → family_of alive j v ≡ sets j v)
      (numbers : AreInSupply net (in_knot knots.numbers knot) items sets) where
    -- A value of the table has its place there.
    in_row : (j : ℕ) (v : JointValue) → j < length net.joints → family_of alive j v ≡ true → code_of v < length (get_or items j []) + 4
    in_row j v j_lt h = elim (cases_lt (code_of v) (length (get_or alive j []))) [
      | inl under ↦ omega (arith, under, ready.width j j_lt)
      | inr ge ↦ absurd (both_ways (family_of alive j v) (get_or-eq_default (get_or alive j []) false ge) h)
    ]

    same : (j : ℕ) (v : JointValue) → j < length net.joints → in_knot knots.numbers knot (giver_side net j) ≡ true → (family_of alive j v ≡ true) ↔ (sets j v ≡ true)
    same j v j_lt here = (
      (λ h. sym (values j v j_lt (in_row j v j_lt h)) ∙ h),
      (λ h. values j v j_lt (numbers j (giver_side net j) v (record { in_range = j_lt; here = inl refl }) here h) ∙ h),
    )

    pub one_alive : OneAtLoops net (in_knot knots.numbers knot) sets → OneAtLoops net (among sides) (family_of alive)
    one_alive one j v w j_lt h loop v_in w_in =
        let here : in_knot knots.numbers knot (giver_side net j) ≡ true = sym (λ i. among_same i (giver_side net j)) ∙ h in
        one j v w j_lt here loop ((same j v j_lt here).0 v_in) ((same j w j_lt here).0 w_in)

    module _ (order : List ℕ) (is_order : IsOrder net order) where
      pub none : HasNone net (names_of items) (among sides) (family_of alive) → HasNoAssignment net (names_of items) (in_knot knots.numbers knot) sets
      none h =
          none_of_sets net wired order is_order (names_of items) inside (are.are_knots knot lt).closed real sets (family_of alive) same
          (subst (λ (f : ℕ → Bool). HasNone net (names_of items) f (family_of alive)) among_same h)

      module _ (turn : ℕ) (chosen : List ℕ) (found : IsFirstWith net (names_of items) (among sides) turn (family_of alive) (places_in net sides) chosen) where
        first : IsFirstWith net (names_of items) (in_knot knots.numbers knot) turn (family_of alive) (places_in net (sides_in net (in_knot knots.numbers knot))) chosen
        first =
            subst (λ (xs : List ℕ). IsFirstWith net (names_of items) (in_knot knots.numbers knot) turn (family_of alive) (places_in net xs) chosen) listed_sides
            (subst (λ (f : ℕ → Bool). IsFirstWith net (names_of items) f turn (family_of alive) (places_in net sides) chosen) among_same found)

        last_same : drop (length chosen - length sides) chosen ≡ map first.first.rows (sides_in net (in_knot knots.numbers knot))
        last_same =
            ap (λ (xs : List ℕ). drop (length chosen - length xs) chosen) listed_sides
            ∙ last_are net wired order is_order (names_of items) inside (are.are_knots knot lt).closed real sets (family_of alive) same turn chosen first listed_real

        pub in_tables : (m : ℕ) → m < length sides → get_or chosen (length chosen - length sides + m) 0 < row_count (side_in net (get_or sides m 0))
        in_tables m m_lt =
            let all : List ℕ = sides_in net (in_knot knots.numbers knot) in
            let side : ℕ = get_or sides m 0 in
            let here : in_knot knots.numbers knot side ≡ true = sym (λ i. among_same i side) ∙ among_at sides m m_lt in
            let count : m < length all = omega (arith, m_lt, ap length listed_sides) in
            let row : get_or chosen (length chosen - length sides + m) 0 ≡ first.first.rows side =
            sym (get_or-drop (length chosen - length sides) chosen m 0)
            ∙ ap (λ (xs : List ℕ). get_or xs m 0) last_same
            ∙ mapped_at first.first.rows all m count
            ∙ ap (λ (xs : List ℕ). first.first.rows (get_or xs m 0)) (sym listed_sides) in
            subst (λ (r : ℕ). r < row_count (side_in net side)) (sym row) ((first.first.chosen.fits side here).in_table no_side)

        pub is_first : (part : Part) → part.sides ≡ sides → part.rows ≡ drop (length chosen - length sides) chosen
            → IsTrue part.jammed ↔ ((m : ℕ) × (m < length part.sides) × IsJamRow net (get_or part.sides m 0) (get_or part.rows m 0))
            → IsFirstPart net (names_of items) (in_knot knots.numbers knot) turn sets part
        is_first part sides_are rows_are jammed = record {
          rows = rows_of net first.first.rows;
          items = items_of net (names_of items) first.first.choice;
          assignment = assigned net wired order is_order (names_of items) inside (are.are_knots knot lt).closed real sets (family_of alive) same first.first.rows first.first.choice first.first.chosen;
          least = none_before net wired order is_order (names_of items) inside (are.are_knots knot lt).closed real sets (family_of alive) same turn chosen first listed_real;
          sides = sides_are ∙ listed_sides;
          rows_are = rows_are ∙ ap (λ (xs : List ℕ). drop (length chosen - length xs) chosen) listed_sides
              ∙ last_rows_are net wired order is_order (names_of items) inside (are.are_knots knot lt).closed real sets (family_of alive) same turn chosen first listed_real;
          jammed = jammed;
        }
