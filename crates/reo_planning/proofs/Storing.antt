-- Parts that are marked when rows are stored.
use Rattle.std.proofs.Common.{◌≡◌, ◌≢◌, ◌∙◌, inl, inr, ℕ, ◌+◌, ◌<◌, ◌≤◌, Bool, true, false, List, length, get_or, set, refl, ap, sym, subst, arith, get_or-set_same, get_or-set_other}
use Rattle.std.proofs.lemmas.Bool.{cases_Bool, cases_lt, both_ways, cases_eq}
use Rattle.std.proofs.lemmas.List.{length-set}
use Rattle.reo_flags.specs.Next.{IsNext}
use Rattle.reo_net_base.specs.Net.{Net}
use Rattle.reo_net_base.specs.Wired.{IsWired, IsOrder}
use Rattle.reo_net_laws.proofs.OneFirst.{one_inside}
use Rattle.reo_net_laws.specs.Knots.{Knotted, AreKnots, in_knot, knot_count}
use Rattle.reo_planning.specs.declared.kept.Kept.{Kept}
use Rattle.reo_planning.specs.Keeping.{IsKept, is_settled, is_moving}
use Rattle.reo_planning.specs.Marked.{AreMarked, TellsFlow}
use Rattle.reo_planning.specs.Planned.{ArePlanned}
use Rattle.reo_planning.proofs.Flowing.{told_same}

module _ (net : Net) (knots : Knotted) (rows : List ℕ) where
  module _ (n : ℕ) (old now : Kept) (far : AreMarked net knots rows n old now) where
    -- One part more, which is marked.
    pub marked_more : (flag : Bool) → is_settled now n ≡ false → n < length now.settled → n < length now.moving → TellsFlow net (in_knot knots.numbers n) rows flag
        → AreMarked net knots rows (n + 1) old (record now { settled = set now.settled n true; moving = set now.moving n flag })
    marked_more flag is settled_in moving_in tells = record {
      kept = far.kept;
      one_each = length-set now.settled n true ∙ far.one_each;
      one_mark = length-set now.moving n flag ∙ far.one_mark;
      settled = λ k lt. elim (cases_eq k n) [
        | inl e ↦ ap (λ (i : ℕ). get_or (set now.settled n true) i false) e ∙ get_or-set_same now.settled n true false settled_in
        | inr ne ↦ get_or-set_other now.settled n k true false ne ∙ far.settled k (omega (arith, lt, ne))
      ];
      rest = λ k le.
          let ne : k ≢ n = omega (arith, le) in
          get_or-set_other now.settled n k true false ne ∙ far.rest k (omega (arith, le));
      stay = λ k was. elim (cases_eq k n) [
        | inl e ↦ absurd (both_ways (is_settled old k) (ap (is_settled old) e ∙ sym (far.rest n (omega arith)) ∙ is) was)
        | inr ne ↦ get_or-set_other now.moving n k flag true ne ∙ far.stay k was
      ];
      told = λ k lt not. elim (cases_eq k n) [
        | inl e ↦ subst (λ (i : ℕ). TellsFlow net (in_knot knots.numbers i) rows (get_or (set now.moving n flag) i true)) (sym e)
            (subst (TellsFlow net (in_knot knots.numbers n) rows) (sym (get_or-set_same now.moving n flag true moving_in)) tells)
        | inr ne ↦ subst (TellsFlow net (in_knot knots.numbers k) rows) (sym (get_or-set_other now.moving n k flag true ne)) (far.told k (omega (arith, lt, ne)) not)
      ];
    }

  -- No part is marked yet.
  pub marked_none : (old : Kept) → AreMarked net knots rows 0 old old
  marked_none old = record {
    kept = refl;
    one_each = refl;
    one_mark = refl;
    settled = λ k lt. absurd (omega arith);
    rest = λ k le. refl;
    stay = λ k was. refl;
    told = λ k lt not. absurd (omega arith);
  }

  -- What is marked up to a part is marked up to the next that is not settled.
  pub marked_next : (n next : ℕ) (old now : Kept) → n ≤ length now.settled → IsNext false now.settled n next → AreMarked net knots rows n old now → AreMarked net knots rows next old now
  marked_next n next old now in_range is far =
      let on = is.from_on in
      record {
        kept = far.kept;
        one_each = far.one_each;
        one_mark = far.one_mark;
        settled = λ k lt. elim (cases_lt k n) [
          | inl low ↦ far.settled k low
          | inr high ↦ is.none_before k high lt
        ];
        rest = λ k le. far.rest k (omega arith);
        stay = far.stay;
        told = λ k lt not. elim (cases_lt k n) [
          | inl low ↦ far.told k low not
          | inr high ↦ absurd (both_ways (is_settled now k) (far.rest k high ∙ not) (is.none_before k high lt))
        ];
      }

-- Rows that are planned are kept where the parts that were not settled are marked by them.
pub kept_stored : (budget : ℕ) (net : Net) → IsWired net → (order : List ℕ) → IsOrder net order → (knots : Knotted) → AreKnots net knots → (turn : ℕ) (rows : List ℕ) (old new : Kept)
    → IsKept net knots turn old → ArePlanned budget net knots turn (knot_count knots) rows → AreMarked net knots rows (knot_count knots) old new
    → IsKept net knots turn (record new { rows = rows; budget = budget })
kept_stored budget net wired order is_order knots are turn rows old new was planned marked = record {
  sizes = record { one_row = planned.one_row; one_each = marked.one_each ∙ was.sizes.one_each; one_mark = marked.one_mark ∙ was.sizes.one_mark };
  known = λ k lt _.
      let tells = told k lt in
      record { within = planned.within k lt; first = planned.firsts k lt; still = tells.still; flows = tells.flows };
}
  where
    -- The rows of a part that was settled are its first rows, as they were.
    told_before : (k : ℕ) → k < knot_count knots → is_settled old k ≡ true → TellsFlow net (in_knot knots.numbers k) rows (is_moving old k)
    told_before k lt yes_ =
        let inside : ℕ → Bool = in_knot knots.numbers k in
        let known = was.known k lt yes_ in
        let before = known.first in
        let now = planned.firsts k lt in
        let one = one_inside net wired order is_order inside (are.are_knots k lt).closed turn before.others now.others before.items now.items before.first now.first in
        told_same net wired inside old.rows rows (λ s s_in h. now.same s s_in h ∙ sym (one.rows s s_in h) ∙ sym (before.same s s_in h)) (is_moving old k)
        (record { still = known.still; flows = known.flows })

    told : (k : ℕ) → k < knot_count knots → TellsFlow net (in_knot knots.numbers k) rows (is_moving new k)
    told k lt = elim (cases_Bool (is_settled old k)) [
      | inl yes_ ↦ subst (TellsFlow net (in_knot knots.numbers k) rows) (sym (marked.stay k yes_)) (told_before k lt yes_)
      | inr not ↦ marked.told k lt not
    ]
