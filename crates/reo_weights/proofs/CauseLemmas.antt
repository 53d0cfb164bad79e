-- Causes for which a round cannot be planned.
use Rattle.std.proofs.Common.{◌≡◌, inl, inr, ℕ, ◌<◌, List, Bool, sym, ◌∙◌, subst, arith}
use Rattle.std.proofs.lemmas.Bool.{cases_lt}
use Rattle.reo_net_base.specs.Net.{Net}
use Rattle.reo_net_base.specs.Sides.{side_count}
use Rattle.reo_net_base.specs.Wired.{IsWired}
use Rattle.reo_net_laws.specs.Parts.{IsClosed, SameKnot}
use Rattle.reo_net_laws.specs.Knots.{AreNumbers, in_knot}
use Rattle.reo_net_laws.proofs.Knots.{knot}
use Rattle.reo_weights.specs.Over.{Cause, IsWithin, IsOverBy, IsOver}
use Rattle.reo_weights.specs.Over.Cause.{spent, wide}
use Rattle.reo_weights.specs.Laws.{CausesAreSmall, CauseIsOne, WithinIsNotOver}
use Rattle.reo_weights.proofs.NumberLemmas.{number_below, one_numbering}
use Rattle.reo_weights.proofs.WeightLemmas.{not_above, one_weight}

-- The numbers that a cause names are small.
pub small_numbers : CausesAreSmall
small_numbers budget net (spent knot weight limit) is =
    let below = number_below (SameKnot net) (side_count net) is.numbers is.count is.numbered is.knot is.in_range in
    (omega (arith, below, is.over.0), not_above net _ weight is.over.2.weighs, is.over.1)
small_numbers budget net (wide knot) is =
    let below = number_below (SameKnot net) (side_count net) is.numbers is.count is.numbered is.knot is.in_range in
    omega (arith, below, is.over.0)

module _ (budget : ℕ) (net : Net) (wired : IsWired net) (inside : ℕ → Bool) (closed : IsClosed net inside) (k : ℕ) where
  -- No set of sides is both within a budget and over it.
  not_both : (cause : Cause) → IsWithin budget net inside → IsOverBy budget net inside k cause → ⊥
  not_both (spent knot weight limit) within over =
      let same = one_weight net wired inside closed weight within.weight over.2.weighs within.weighs in
      omega (arith, same, within.few, over.2.many)
  not_both (wide knot) within over = within.narrow over.1

  -- A set of sides is over for one cause.
  same_cause : (a b : Cause) → IsOverBy budget net inside k a → IsOverBy budget net inside k b → a ≡ b
  same_cause (spent knot weight limit) (spent other heavy bound) p q =
      let knots : knot ≡ other = p.0 ∙ sym q.0 in
      let weights : weight ≡ heavy = one_weight net wired inside closed weight heavy p.2.weighs q.2.weighs in
      let limits : limit ≡ bound = p.1 ∙ sym q.1 in
      (λ i. spent (knots i) (weights i) (limits i))
  same_cause (spent knot weight limit) (wide other) p q = absurd (p.2.narrow q.1)
  same_cause (wide knot) (spent other heavy bound) p q = absurd (q.2.narrow p.1)
  same_cause (wide knot) (wide other) p q = let knots : knot ≡ other = p.0 ∙ sym q.0 in (λ i. wide (knots i))

module _ (budget : ℕ) (net : Net) (wired : IsWired net) where
  -- A part that is within the budget is not the one that is over.
  not_that : (numbers : List ℕ) (count : ℕ) → AreNumbers (SameKnot net) (side_count net) numbers count → (cause : Cause) → (is : IsOver budget net cause) → (is.knot < count → IsWithin budget net (in_knot numbers is.knot)) → ⊥
  not_that numbers count are cause is within =
      let same = one_numbering net is.numbers numbers is.count count is.numbered are in
      let lt : is.knot < count = omega (arith, is.in_range, same.1) in
      not_both budget net wired (in_knot numbers is.knot) (knot net wired numbers count are is.knot lt).closed is.knot cause (within lt)
      (subst (λ (ns : List ℕ). IsOverBy budget net (in_knot ns is.knot) is.knot cause) same.0 is.over)

-- No cause is there where each part is within the budget.
pub within_not_over : WithinIsNotOver
within_not_over budget net wired numbers count are each cause is = not_that budget net wired numbers count are cause is (each is.knot)

-- There is one cause and no other.
pub one_cause : CauseIsOne
one_cause budget net wired a b p q = elim (cases_lt p.knot q.knot) [
  | inl less ↦ absurd (not_that budget net wired q.numbers q.count q.numbered a p (λ lt. q.before p.knot less))
  | inr le ↦ elim (cases_lt q.knot p.knot) [
    | inl less ↦ absurd (not_that budget net wired p.numbers p.count p.numbered b q (λ lt. p.before q.knot less))
    | inr ge ↦
        let same = one_numbering net p.numbers q.numbers p.count q.count p.numbered q.numbered in
        let knots : p.knot ≡ q.knot = omega (arith, le, ge) in
        let over : IsOverBy budget net (in_knot q.numbers q.knot) q.knot a =
        subst (λ (k : ℕ). IsOverBy budget net (in_knot q.numbers k) k a) knots (subst (λ (ns : List ℕ). IsOverBy budget net (in_knot ns p.knot) p.knot a) same.0 p.over) in
        same_cause budget net wired (in_knot q.numbers q.knot) (knot net wired q.numbers q.count q.numbered q.knot q.in_range).closed q.knot a b over q.over
  ]
]
