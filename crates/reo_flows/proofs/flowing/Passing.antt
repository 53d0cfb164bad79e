-- Going through a list by those of its elements that pass a test.
use Rattle.std.proofs.Common.{◌≡◌, ◌∙◌, ℕ, zero, suc, ◌+◌, ◌<◌, Bool, true, false, cond, List, [], ◌∷◌, drop, length, get_or, ap, sym, subst, refl, arith, add-one}
use Rattle.std.specs.Prelude.{filter}
use Rattle.std.proofs.Math.Seq.{drop-cons}
use Rattle.std.proofs.lemmas.List.{drop_all}

pub nothing_there : (x : ℕ) (xs : List ℕ) → [] ≡ x ∷ xs → ⊥
nothing_there x xs e = cc

-- The next element that passes, where what holds at a place holds at the next one if the element there does not pass.
module _ (f : ℕ → Bool) (xs : List ℕ) (C : ℕ → Type 0) (skip : (n : ℕ) → n < length xs → f (get_or xs n 0) ≡ false → C n → C (n + 1)) where
  pub record IsNext (x : ℕ) (rest : List ℕ) : Type 0 where
    pub place : ℕ
    pub in_range : place < length xs
    pub here : get_or xs place 0 ≡ x
    pub passes : f x ≡ true
    pub left : filter f (drop (place + 1) xs) ≡ rest
    pub far : C place

  front : (n : ℕ) → n < length xs → (t : Bool) → f (get_or xs n 0) ≡ t → filter f (drop n xs) ≡ cond t (get_or xs n 0 ∷ filter f (drop (n + 1) xs)) (filter f (drop (n + 1) xs))
  front n lt t is = rw add-one (
      ap (filter f) (drop-cons xs n 0 lt)
      ∙ ap (λ (b : Bool). cond b (get_or xs n 0 ∷ filter f (drop (suc n) xs)) (filter f (drop (suc n) xs))) is)

  pub next_from : (fuel n : ℕ) → n + fuel ≡ length xs → (x : ℕ) (rest : List ℕ) → filter f (drop n xs) ≡ x ∷ rest → C n → IsNext x rest
  next_from zero n all x rest is far = absurd (nothing_there x rest (sym (ap (filter f) (drop_all n xs (omega (arith, all)))) ∙ is))
  next_from (suc fuel) n all x rest is far =
      let lt : n < length xs = omega (arith, all) in
      elim (f (get_or xs n 0)) as (λ t. f (get_or xs n 0) ≡ t → IsNext x rest) [
        | true ↦ λ passes.
            let whole : get_or xs n 0 ∷ filter f (drop (n + 1) xs) ≡ x ∷ rest = sym (front n lt true passes) ∙ is in
            let here : get_or xs n 0 ≡ x = ap (λ (l : List ℕ). get_or l 0 0) whole in
            record {
              place = n;
              in_range = lt;
              here = here;
              passes = ap f (sym here) ∙ passes;
              left = ap (drop 1) whole;
              far = far;
            }
        | false ↦ λ not. next_from fuel (n + 1) (omega (arith, all)) x rest (sym (front n lt false not) ∙ is) (skip n lt not far)
      ] refl

  -- Where none is left that passes, it holds at the end.
  pub end_from : (fuel n : ℕ) → n + fuel ≡ length xs → filter f (drop n xs) ≡ [] → C n → C (length xs)
  end_from zero n all is far = let last : n ≡ length xs = omega (arith, all) in subst C last far
  end_from (suc fuel) n all is far =
      let lt : n < length xs = omega (arith, all) in
      elim (f (get_or xs n 0)) as (λ t. f (get_or xs n 0) ≡ t → C (length xs)) [
        | true ↦ λ passes. absurd (nothing_there (get_or xs n 0) (filter f (drop (n + 1) xs)) (sym is ∙ front n lt true passes))
        | false ↦ λ not. end_from fuel (n + 1) (omega (arith, all)) (sym (front n lt false not) ∙ is) (skip n lt not far)
      ] refl
