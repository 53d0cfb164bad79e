-- Numberings: how many numbers there are, and that there is one numbering.
use Rattle.std.proofs.Common.{◌≡◌, inl, inr, ℕ, zero, suc, ◌<◌, ◌≤◌, List, get_or, sym, ◌∙◌, arith}
use Rattle.std.proofs.lemmas.Bool.{cases_lt}
use Rattle.std.proofs.lemmas.Grind.{same_number_lists}
use Rattle.reo_net_base.specs.Sides.{side_count}
use Rattle.reo_net_laws.specs.Parts.{SameKnot}
use Rattle.reo_net_laws.specs.Knots.{AreNumbers}
use Rattle.reo_weights.specs.Laws.{NumbersAreOne}

module _ (are_same : ℕ → ℕ → Type 0) (n : ℕ) where
  -- No side has a number above its own place.
  at_most : (numbers : List ℕ) (count : ℕ) → AreNumbers are_same n numbers count → (m s : ℕ) → s < m → s < n → get_or numbers s 0 ≤ s
  at_most numbers count are zero s lt s_in = absurd (omega arith)
  at_most numbers count are (suc m) s lt s_in = elim (cases_lt s (get_or numbers s 0)) [
    | inr le ↦ le
    | inl above ↦
        let before = are.by_least s s s_in above in
        absurd (omega (arith, at_most numbers count are m before.0 (omega (arith, before.1)) (omega (arith, before.1)), before.1, before.2))
  ]

  -- There are no more numbers than sides.
  pub number_below : (numbers : List ℕ) (count : ℕ) → AreNumbers are_same n numbers count → (k : ℕ) → k < count → k < n
  number_below numbers count are k lt =
      let it = are.each k lt in
      omega (arith, at_most numbers count are (suc it.0) it.0 (omega arith) it.1, it.1, it.2)

  module _ (a b : List ℕ) (p q : ℕ) (a_are : AreNumbers are_same n a p) (b_are : AreNumbers are_same n b q) where
    -- Where two numberings agree on smaller places, no number is smaller in the first.
    no_less : (s : ℕ) → s < n → ((t : ℕ) → t < s → get_or a t 0 ≡ get_or b t 0) → get_or a s 0 < get_or b s 0 → ⊥
    no_less s s_in before less =
        let it = b_are.by_least s (get_or a s 0) s_in less in
        let t_in : it.0 < n = omega (arith, it.1) in
        let same = (a_are.same it.0 s t_in s_in).0 (before it.0 it.1 ∙ it.2) in
        let equal = (b_are.same it.0 s t_in s_in).1 same in
        omega (arith, it.2, equal)

  module _ (a b : List ℕ) (p q : ℕ) (a_are : AreNumbers are_same n a p) (b_are : AreNumbers are_same n b q) where
    agree : (m s : ℕ) → s < m → s < n → get_or a s 0 ≡ get_or b s 0
    agree zero s lt s_in = absurd (omega arith)
    agree (suc m) s lt s_in =
        let before : (t : ℕ) → t < s → get_or a t 0 ≡ get_or b t 0 = λ t t_lt. agree m t (omega arith) (omega arith) in
        elim (cases_lt (get_or a s 0) (get_or b s 0)) [
          | inl less ↦ absurd (no_less a b p q a_are b_are s s_in before less)
          | inr le ↦ elim (cases_lt (get_or b s 0) (get_or a s 0)) [
            | inl less ↦ absurd (no_less b a q p b_are a_are s s_in (λ t t_lt. sym (before t t_lt)) less)
            | inr ge ↦ omega (arith, le, ge)
          ]
        ]

    few : (k : ℕ) → k < p → k < q
    few k lt =
        let it = a_are.each k lt in
        omega (arith, b_are.in_range it.0 it.1, agree (suc it.0) it.0 (omega arith) it.1, it.2)

    -- Two numberings give each side one number.
    pub same_numbers : a ≡ b
    same_numbers = same_number_lists a b (omega (arith, a_are.one_each, b_are.one_each)) (λ k lt. agree (suc k) k (omega arith) (omega (arith, a_are.one_each)))

  -- And as many numbers.
  pub same_count : (a b : List ℕ) (p q : ℕ) → AreNumbers are_same n a p → AreNumbers are_same n b q → p ≡ q
  same_count a b p q a_are b_are = elim (cases_lt p q) [
    | inl less ↦ let wrong : p < p = few b a q p b_are a_are p less in absurd (omega (arith, wrong))
    | inr le ↦ elim (cases_lt q p) [
      | inl less ↦ let wrong : q < q = few a b p q a_are b_are q less in absurd (omega (arith, wrong))
      | inr ge ↦ omega (arith, le, ge)
    ]
  ]

-- A circuit has one numbering of its parts.
pub one_numbering : NumbersAreOne
one_numbering net a b m n a_are b_are = (same_numbers (SameKnot net) (side_count net) a b m n a_are b_are, same_count (SameKnot net) (side_count net) a b m n a_are b_are)
