-- Parts that serve and are told are passed over.
use Rattle.std.proofs.Common.{◌≡◌, inl, inr, ℕ, zero, suc, ◌+◌, ◌-◌, ◌<◌, ◌≤◌, Bool, true, List, [], get_or, subst, sym, arith}
use Rattle.std.proofs.lemmas.Bool.{and_parts, cases_eq}
use Rattle.std.specs.Prelude.{nat_le}
use Rattle.reo_net_base.specs.Net.{Net}
use Rattle.reo_net_base.specs.Wired.{IsWired}
use Rattle.reo_net_laws.specs.Knots.{Knotted, AreKnots, in_knot, knot_count}
use Rattle.reo_flows.specs.flowing.Flowing.{AreFlowingOf}
use Rattle.reo_part_plans.specs.Plannings.{Kept, IsKept, is_settled, serves}
use Rattle.reo_part_plans.proofs.Plannings.{ArePlannedSoFar, planned_more, served}
use Rattle.reo_settling.specs.Lookups.{IsNextToSettle}
use Rattle.reo_settling.proofs.Listed.{IsListedFar, flowing_same}

-- The parts below a number are planned, and their joints that flow are listed.
pub record AreSettledFar (budget : ℕ) (net : Net) (knots : Knotted) (turn : ℕ) (kept : Kept) (told : Bool) (n : ℕ) (rows : List ℕ) (lists : List (List ℕ)) : Type 0 where
  pub planned : ArePlannedSoFar budget net knots turn n kept.rows rows
  pub listed : IsListedFar net knots kept told n rows lists

module _ (budget : ℕ) (net : Net) (wired : IsWired net) (knots : Knotted) (are : AreKnots net knots) (turn : ℕ) (kept : Kept) (is : IsKept net knots turn kept) (told : Bool) (rows : List ℕ) (lists : List (List ℕ)) where
  -- One part more, which serves and is told.
  module _ (n : ℕ) (lt : n < knot_count knots) (serve : serves kept budget n ≡ true) (yes_ : told ≡ true) (far : AreSettledFar budget net knots turn kept told n rows lists) where
    here : AreFlowingOf net (in_knot knots.numbers n) rows (get_or lists n [])
    here =
        flowing_same net wired (in_knot knots.numbers n) kept.rows rows (λ s s_in h. far.planned.rest n s (omega arith) h) (get_or lists n [])
        (far.listed.rest yes_ n (omega arith) lt ((and_parts (nat_le kept.budget budget) (is_settled kept n) serve).1))

    settled_one : AreSettledFar budget net knots turn kept told (n + 1) rows lists
    settled_one = record {
      planned = planned_more budget net knots turn n kept.rows rows rows far.planned (served budget net knots are turn n lt kept rows is serve (λ s h. far.planned.rest n s (omega arith) h));
      listed = record {
        one_each = far.listed.one_each;
        done = λ k below. elim (cases_eq k n) [
          | inl e ↦ subst (λ (m : ℕ). AreFlowingOf net (in_knot knots.numbers m) rows (get_or lists m [])) (sym e) here
          | inr ne ↦ far.listed.done k (omega (arith, below, ne))
        ];
        rest = λ told_ k le k_in settled. far.listed.rest told_ k (omega (arith, le)) k_in settled;
      };
    }

  settled_by : (d n next : ℕ) → next ≡ n + d → next ≤ knot_count knots → ((k : ℕ) → n ≤ k → k < next → serves kept budget k ≡ true) → (n < next → told ≡ true)
      → AreSettledFar budget net knots turn kept told n rows lists → AreSettledFar budget net knots turn kept told next rows lists
  settled_by zero n next e in_range serve yes_ far =
      let same : n ≡ next = omega (arith, e) in
      subst (λ (m : ℕ). AreSettledFar budget net knots turn kept told m rows lists) same far
  settled_by (suc d) n next e in_range serve yes_ far =
      let lt : n < next = omega (arith, e) in
      settled_by d (n + 1) next (omega (arith, e)) in_range (λ k le below. serve k (omega (arith, le)) below) (λ _. yes_ lt)
      (settled_one n (omega (arith, lt, in_range)) (serve n (omega arith) lt) (yes_ lt) far)

  -- What is settled up to a part is settled up to the next one that is to be settled.
  pub settled_next : (n next : ℕ) → next ≤ knot_count knots → IsNextToSettle budget told n kept next → AreSettledFar budget net knots turn kept told n rows lists → AreSettledFar budget net knots turn kept told next rows lists
  settled_next n next in_range to far =
      let on = to.from_on in
      settled_by (next - n) n next (omega (arith, on)) in_range to.served to.only_told far
