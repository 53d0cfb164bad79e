-- What is done at the sides of the parts that are not flagged, part by part.
use Rattle.std.proofs.Common.{◌≡◌, ◌≢◌, ◌∙◌, inl, inr, ℕ, ◌+◌, ◌<◌, ◌≤◌, Bool, true, false, List, [], length, get_or, ap, sym, subst, arith}
use Rattle.std.specs.Prelude.{nat_lt, ◌==◌}
use Rattle.std.proofs.lemmas.Bool.{and_from, both_ways, cases_eq, cases_lt}
use Rattle.std.proofs.lemmas.Bool.Decides.{nat_tests}
use Rattle.std.proofs.lemmas.List.{get_or_default}
use Rattle.reo_net_base.specs.Net.{Net}
use Rattle.reo_net_base.specs.Sides.{side_count}
use Rattle.reo_net_laws.specs.Knots.{Knotted, AreKnots, in_knot, knot_count}
use Rattle.reo_mark_search.proofs.Parts.{side_here, side_listed}
use Rattle.reo_engine.proofs.Plannings.{number_is}
use Rattle.reo_engine.specs.Resting.{AreDoneAt, part_of}

-- A side is in its own part.
pub in_own : (net : Net) (knots : Knotted) → AreKnots net knots → (s k : ℕ) → s < side_count net → part_of knots s ≡ k → in_knot knots.numbers k s ≡ true
in_own net knots are s k s_in is =
    let count = are.numbered.one_each in
    let below : s < length knots.numbers = omega (arith, count, s_in) in
    and_from (nat_lt s (length knots.numbers)) (part_of knots s == k) (grind (arith, nat_tests)) (grind (arith, nat_tests))

-- Before the first part nothing is done.
pub done_none : (net : Net) (knots : Knotted) (flags : List Bool) (Done Stays : ℕ → Type 0) → ((s : ℕ) → Stays s) → AreDoneAt net knots flags 0 Done Stays
done_none net knots flags Done Stays stays = record { here = λ s s_in lt clear. absurd (omega (arith, lt)); others = λ s s_in flag. stays s }

-- Parts are passed over that are flagged.
pub done_over : (net : Net) (knots : Knotted) (flags : List Bool) (n next : ℕ) → ((k : ℕ) → n ≤ k → k < next → get_or flags k false ≡ true) → (Done Stays : ℕ → Type 0) → AreDoneAt net knots flags n Done Stays
    → AreDoneAt net knots flags next Done Stays
done_over net knots flags n next flagged Done Stays at = record {
  here = λ s s_in below clear. elim (cases_lt (part_of knots s) n) [
    | inl lt ↦ at.here s s_in lt clear
    | inr le ↦ absurd (both_ways (get_or flags (part_of knots s) false) clear (flagged (part_of knots s) le below))
  ];
  others = at.others;
}

-- One part more, which is not flagged, and of which all sides were done.
pub done_more : (net : Net) (knots : Knotted) → AreKnots net knots → (flags : List Bool) (n : ℕ) → n < knot_count knots → get_or flags n false ≡ false → (sides : List ℕ) → sides ≡ get_or knots.sides n []
    → (Done Stays Did MadeWithin : ℕ → Type 0) → AreDoneAt net knots flags n Done Stays
    → ((m : ℕ) → m < length sides → Did (get_or sides m 0)) → ((s : ℕ) → Done s → Did s) → ((s : ℕ) → ((m : ℕ) → m < length sides → get_or sides m 0 ≢ s) → Stays s → MadeWithin s)
    → AreDoneAt net knots flags (n + 1) Did MadeWithin
done_more net knots are flags n lt clear sides is Done Stays Did MadeWithin at did stay other = record {
  here = λ s s_in below not. elim (cases_eq (part_of knots s) n) [
    | inl e ↦
        let there = side_listed net knots are n lt sides is s s_in (in_own net knots are s n s_in e) in
        subst Did (get_or_default sides there.0 0 s there.1 ∙ there.2) (did there.0 there.1)
    | inr ne ↦ stay s (at.here s s_in (omega (arith, below, ne)) not)
  ];
  others = λ s s_in flag. other s (λ m m_in e.
      let here : part_of knots (get_or sides m 0) ≡ n = number_is knots.numbers n (get_or sides m 0) (side_here net knots are n lt sides is m m_in) in
      both_ways (get_or flags (part_of knots s) false) (ap (λ (k : ℕ). get_or flags k false) (ap (part_of knots) (sym e) ∙ here) ∙ clear) flag) (at.others s s_in flag);
}
