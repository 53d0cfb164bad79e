-- The sides of a part, as a list and as a set.
use Rattle.std.proofs.Common.{◌≡◌, ◌≢◌, ℕ, ◌+◌, ◌<◌, Bool, true, List, [], length, get_or, ap, sym, ◌∙◌, subst, arith}
use Rattle.std.specs.Cmp.{both_ways}
use Rattle.std.proofs.lemmas.Bool.{and_parts, eqb-true, ltb-true}
use Rattle.std.specs.Prelude.{◌==◌, nat_lt}
use Rattle.std.specs.List.{range_with_len}
use Rattle.reo_net_base.specs.Net.{Net}
use Rattle.reo_net_base.specs.Sides.{side_count}
use Rattle.reo_net_base.specs.Wired.{IsWired}
use Rattle.reo_net_laws.specs.Sublists.{sides_in}
use Rattle.reo_net_laws.specs.Knots.{Knotted, AreKnots, in_knot, knot_count}
use Rattle.reo_propagate.specs.Queues.{among}
use Rattle.reo_search_tables.proofs.Among.{among_filter, into_filter, among_range}
use Rattle.reo_search_tables.specs.SearchTables.{AreApart}
use Rattle.reo_search_tables.specs.Orders.{AreJointsOf, AreOrders}
use Rattle.reo_search_tables.proofs.Sorted.{not_other, orders_are_of_parts}

module _ (net : Net) (knots : Knotted) (are : AreKnots net knots) (part : ℕ) (lt : part < knot_count knots) where
  -- A side of a part is one of the circuit.
  real : (s : ℕ) → in_knot knots.numbers part s ≡ true → s < side_count net
  real s h =
      let under = ltb-true s (length knots.numbers) ((and_parts (nat_lt s (length knots.numbers)) (get_or knots.numbers s 0 == part) h).0) in
      omega (arith, under, are.numbered.one_each)

  among_part : (s : ℕ) → among (sides_in net (in_knot knots.numbers part)) s ≡ in_knot knots.numbers part s
  among_part s = both_ways (among (sides_in net (in_knot knots.numbers part)) s) (in_knot knots.numbers part s)
      (λ h. (among_filter (in_knot knots.numbers part) (range_with_len 0 (side_count net)) s h).0)
      (λ h. into_filter (in_knot knots.numbers part) (range_with_len 0 (side_count net)) s h
      (subst (λ (k : ℕ). among (range_with_len 0 (side_count net)) k ≡ true) (let z : 0 + s ≡ s = omega arith in z) (among_range 0 (side_count net) s (real s h))))

  -- The list of the sides of a part has just these.
  pub is_part : (sides : List ℕ) → sides ≡ get_or knots.sides part [] → among sides ≡ in_knot knots.numbers part
  is_part sides is = ap among (is ∙ are.sides_are part [] lt) ∙ (λ i s. among_part s i)

  pub part_real : (sides : List ℕ) → sides ≡ get_or knots.sides part [] → (s : ℕ) → among sides s ≡ true → s < side_count net
  part_real sides is s h = real s (sym (λ i. is_part sides is i s) ∙ h)

  -- Its joints are those of its list.
  pub part_joints : IsWired net → (orders : List (List ℕ)) → AreOrders net knots orders → (sides joints : List ℕ) → sides ≡ get_or knots.sides part [] → joints ≡ get_or orders part [] → AreJointsOf net (among sides) joints
  part_joints wired orders order sides joints is here =
      subst (λ (inside : ℕ → Bool). AreJointsOf net inside joints) (sym (is_part sides is))
      (subst (λ (list : List ℕ). AreJointsOf net (in_knot knots.numbers part) list) (sym here) (orders_are_of_parts net wired knots are orders order part lt))

  -- It has no side of another part.
  pub part_apart : (sides : List ℕ) → sides ≡ get_or knots.sides part [] → (k : ℕ) → k ≢ part → AreApart (among sides) (in_knot knots.numbers k)
  part_apart sides is k ne s h =
      let mine : in_knot knots.numbers part s ≡ true = sym (λ i. is_part sides is i s) ∙ h in
      not_other knots.numbers k s (λ e. ne (e ∙ eqb-true (get_or knots.numbers s 0) part ((and_parts (nat_lt s (length knots.numbers)) (get_or knots.numbers s 0 == part) mine).1)))
