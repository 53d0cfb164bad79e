-- One part more has the rows of its first assignment.
use Rattle.std.proofs.Common.{◌≡◌, ◌∙◌, inl, inr, ℕ, ◌+◌, ◌<◌, ◌≤◌, ◌≢◌, Bool, true, List, length, get_or, refl, ap, sym, subst, arith}
use Rattle.std.proofs.lemmas.Bool.{and_parts, cases_eq}
use Rattle.std.specs.Prelude.{nat_le}
use Rattle.std.proofs.lemmas.Bool.Decides.{nat_tests}
use Rattle.reo_net_base.specs.Net.{Net}
use Rattle.reo_net_base.specs.Sides.{side_count}
use Rattle.reo_net_laws.specs.Sublists.{part_rows}
use Rattle.reo_net_laws.specs.Knots.{Knotted, AreKnots, in_knot, knot_count}
use Rattle.reo_weights.specs.still.Joining.{HasFirst}
use Rattle.reo_weights.specs.Over.{IsWithin}
use Rattle.reo_weights.specs.declared.exceeds.Exceeds.{Exceeds}
use Rattle.reo_weights.specs.declared.exceeds.Exceeds.TheVariants as plans
use Rattle.reo_rounds.specs.Plans.{IsPlanFault}
use Rattle.reo_propagate.specs.Queues.{among}
use Rattle.reo_search.specs.First.{Part, IsFirstWithin, IsSearchFault}
use Rattle.reo_search.proofs.Walked.{among_sides, sides_below}
use Rattle.reo_planning.specs.declared.kept.Kept.{Kept}
use Rattle.reo_planning.specs.Keeping.{is_settled, serves, AllServe, IsKept}
use Rattle.reo_planning.specs.Planned.{ArePlanned, IsPartPlanned}
use Rattle.reo_planning.specs.Written.{AreWritten}
use Rattle.reo_planning.proofs.KnotSets.{below, elsewhere}

-- More is within a greater budget.
within_more : (less more : ℕ) (net : Net) (inside : ℕ → Bool) → less ≤ more → IsWithin less net inside → IsWithin more net inside
within_more less more net inside le is = record { narrow = is.narrow; weight = is.weight; weighs = is.weighs; few = let few = is.few in omega (arith, few) }

fits : (kept : Kept) (budget k : ℕ) → serves kept budget k ≡ true → kept.budget ≤ budget
fits kept budget k h =
    let le : nat_le kept.budget budget ≡ true = (and_parts (nat_le kept.budget budget) (is_settled kept k) h).0 in
    grind (arith, nat_tests)

module _ (budget : ℕ) (net : Net) (knots : Knotted) (are : AreKnots net knots) (turn k : ℕ) (lt : k < knot_count knots) where
  real : (s : ℕ) → in_knot knots.numbers k s ≡ true → s < side_count net
  real = below net knots.numbers (knot_count knots) are.numbered k

  -- The sides that a part tells are those of the circuit.
  pub sides_in_range : (part : Part) → IsFirstWithin budget net (in_knot knots.numbers k) turn part → (m : ℕ) → m < length part.sides → get_or part.sides m 0 < side_count net
  sides_in_range part is = subst (λ (xs : List ℕ). (m : ℕ) → m < length xs → get_or xs m 0 < side_count net) (sym is.first.sides) (sides_below net (in_knot knots.numbers k) real)

  -- The rows of a part that was searched are written down.
  pub searched : (part : Part) (old new : List ℕ) → length old ≡ side_count net → IsFirstWithin budget net (in_knot knots.numbers k) turn part
      → ((from : List ℕ) → part.rows ≡ part_rows part.sides from → AreWritten part.sides from old new)
      → IsPartPlanned budget net knots turn k old new
  searched part old new one_row is written =
      let from : List ℕ = is.first.rows in
      let same : part.rows ≡ part_rows part.sides from = is.first.rows_are ∙ ap (λ (xs : List ℕ). part_rows xs from) (sym is.first.sides) in
      let w : AreWritten part.sides from old new = written from same in
      let in_part : (s : ℕ) → among part.sides s ≡ in_knot knots.numbers k s = λ s. ap (λ (xs : List ℕ). among xs s) is.first.sides ∙ among_sides net (in_knot knots.numbers k) real s in
      record {
        one_each = w.one_each;
        within = is.within;
        first = record {
          others = from;
          items = is.first.items;
          first = is.first.first;
          same = λ s s_in h. w.here s (omega (arith, one_row)) (in_part s ∙ h);
        };
        others = λ s h. w.others s (in_part s ∙ h);
      }

  -- The rows of a part that serves stand there.
  pub served : (kept : Kept) (old : List ℕ) → IsKept net knots turn kept → serves kept budget k ≡ true
      → ((s : ℕ) → in_knot knots.numbers k s ≡ true → get_or old s 0 ≡ get_or kept.rows s 0)
      → IsPartPlanned budget net knots turn k old old
  served kept old is serve here =
      let known = is.known k lt ((and_parts (nat_le kept.budget budget) (is_settled kept k) serve).1) in
      record {
        one_each = refl;
        within = within_more kept.budget budget net (in_knot knots.numbers k) (fits kept budget k serve) known.within;
        first = record {
          others = known.first.others;
          items = known.first.items;
          first = known.first.first;
          same = λ s s_in h. here s h ∙ known.first.same s s_in h;
        };
        others = λ s h. refl;
      }

-- The rows below the n-th part are planned, and the others are those of a list.
pub record ArePlannedSoFar (budget : ℕ) (net : Net) (knots : Knotted) (turn n : ℕ) (from rows : List ℕ) : Type 0 where
  pub planned : ArePlanned budget net knots turn n rows
  pub rest : (k s : ℕ) → n ≤ k → in_knot knots.numbers k s ≡ true → get_or rows s 0 ≡ get_or from s 0

-- No part is planned yet.
pub planned_none : (budget : ℕ) (net : Net) (knots : Knotted) (turn : ℕ) (from rows : List ℕ) → rows ≡ from → length from ≡ side_count net → ArePlannedSoFar budget net knots turn 0 from rows
planned_none budget net knots turn from rows is one_row = record {
  planned = record { one_row = ap length is ∙ one_row; within = λ k lt. absurd (omega arith); firsts = λ k lt. absurd (omega arith) };
  rest = λ k s le h. ap (λ (xs : List ℕ). get_or xs s 0) is;
}

-- The first assignment of a part stands where the rows of another part change.
first_still : (budget : ℕ) (net : Net) (knots : Knotted) (turn n k : ℕ) (rows new : List ℕ) → k ≢ n → IsPartPlanned budget net knots turn n rows new → HasFirst net knots.numbers turn rows k → HasFirst net knots.numbers turn new k
first_still budget net knots turn n k rows new ne more has = record {
  others = has.others;
  items = has.items;
  first = has.first;
  same = λ s s_in h. more.others s (elsewhere knots.numbers k n s h (λ e. ne (sym e))) ∙ has.same s s_in h;
}

-- One part more is planned.
pub planned_more : (budget : ℕ) (net : Net) (knots : Knotted) (turn n : ℕ) (from rows new : List ℕ) → ArePlannedSoFar budget net knots turn n from rows → IsPartPlanned budget net knots turn n rows new
    → ArePlannedSoFar budget net knots turn (n + 1) from new
planned_more budget net knots turn n from rows new far more = record {
  planned = record {
    one_row = more.one_each ∙ far.planned.one_row;
    within = λ k lt. elim (cases_eq k n) [
      | inl e ↦ subst (λ (m : ℕ). IsWithin budget net (in_knot knots.numbers m)) (sym e) more.within
      | inr ne ↦ far.planned.within k (omega arith)
    ];
    firsts = λ k lt. elim (cases_eq k n) [
      | inl e ↦ subst (λ (m : ℕ). HasFirst net knots.numbers turn new m) (sym e) more.first
      | inr ne ↦ first_still budget net knots turn n k rows new ne more (far.planned.firsts k (omega arith))
    ];
  };
  rest = λ k s le h.
      let apart : n ≢ k = omega arith in
      more.others s (elsewhere knots.numbers k n s h apart) ∙ far.rest k s (omega arith) h;
}

-- A part that is over is the least one where each before it is within the budget.
pub least_over : (budget : ℕ) (net : Net) (knots : Knotted) → AreKnots net knots → (turn n : ℕ) → n < knot_count knots → (rows : List ℕ) → ArePlanned budget net knots turn n rows
    → (fault : Exceeds) → IsSearchFault budget net (in_knot knots.numbers n) n fault → IsPlanFault budget net fault
least_over budget net knots are turn n lt rows planned (plans.Wide k) is = record {
  numbers = knots.numbers;
  count = knot_count knots;
  numbered = are.numbered;
  knot = n;
  in_range = lt;
  over = is;
  before = planned.within;
}
least_over budget net knots are turn n lt rows planned (plans.Spent k weight) is = record {
  numbers = knots.numbers;
  count = knot_count knots;
  numbered = are.numbered;
  knot = n;
  in_range = lt;
  over = is;
  before = planned.within;
}
least_over budget net knots are turn n lt rows planned plans.NoMemory is = tt

-- Where all parts serve, the rows that are kept are planned.
pub all_served : (budget : ℕ) (net : Net) (knots : Knotted) → AreKnots net knots → (turn : ℕ) (kept : Kept) → IsKept net knots turn kept → AllServe (knot_count knots) budget kept
    → (rows : List ℕ) → rows ≡ kept.rows → ArePlanned budget net knots turn (knot_count knots) rows
all_served budget net knots are turn kept is all rows same =
    let part : (k : ℕ) → k < knot_count knots → IsPartPlanned budget net knots turn k rows rows =
    λ k lt. served budget net knots are turn k lt kept rows is (all k lt) (λ s h. ap (λ (xs : List ℕ). get_or xs s 0) same) in
    record {
      one_row = ap length same ∙ is.sizes.one_row;
      within = λ k lt. (part k lt).within;
      firsts = λ k lt. (part k lt).first;
    }
