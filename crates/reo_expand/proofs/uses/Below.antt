-- One number more.
use Rattle.std.proofs.Common.{arith, ◌≡◌, ◌∙◌, ◌+◌, ℕ, zero, suc, pos, Bool, true, false, cond, List, [], ◌∷◌, ◌++◌, refl, ap}
use Rattle.std.specs.Prelude.{filter}
use Rattle.std.specs.List.{range_with_len}
use Rattle.reo_rules.specs.Lists.{has_name}
use Rattle.reo_expand.specs.base.Expansion.{numbered_name}
use Rattle.reo_expand.specs.uses.Numbers.{numbers_below}

module _ (p : ℕ → Bool) where
  kept : (b : Bool) (x : ℕ) (a c : List ℕ) → cond b (x ∷ (a ++ c)) (a ++ c) ≡ cond b (x ∷ a) a ++ c
  kept true x a c = refl
  kept false x a c = refl

  alone : (b : Bool) (x y : ℕ) → x ≡ y → cond b (x ∷ []) [] ≡ cond b (y ∷ []) []
  alone b x y e = ap (λ z. cond b (z ∷ []) []) e

  more : (a n j : ℕ) → a + n ≡ j → filter p (range_with_len a (suc n)) ≡ filter p (range_with_len a n) ++ cond (p j) (j ∷ []) []
  more a zero j e = let s : a ≡ j = omega arith in ap (λ z. cond (p z) (z ∷ []) []) s
  more a (suc n) j e =
      let s : (a + 1) + n ≡ j = omega arith in
      ap (λ l. cond (p a) (a ∷ l) l) (more (a + 1) n j s)
      ∙ kept (p a) a (filter p (range_with_len (a + 1) n)) (cond (p j) (j ∷ []) [])

module _ (names : List (List ℕ)) (name : List ℕ) (n : ℕ) where
  one_more : numbers_below (n + 1) names name ≡ numbers_below n names name ++ cond (has_name names (numbered_name name (pos n))) (n ∷ []) []
  unfolding numbers_below
  one_more =
      let s : n + 1 ≡ suc n = omega arith in
      let z : 0 + n ≡ n = omega arith in
      ap (λ m. filter (λ k. has_name names (numbered_name name (pos k))) (range_with_len 0 m)) s
      ∙ more (λ k. has_name names (numbered_name name (pos k))) 0 n n z

  pub more_there : has_name names (numbered_name name (pos n)) ≡ true → numbers_below (n + 1) names name ≡ numbers_below n names name ++ n ∷ []
  more_there h = one_more ∙ ap (λ b. numbers_below n names name ++ cond b (n ∷ []) []) h

  none : (l : List ℕ) → l ++ [] ≡ l
  none [] = refl
  none (x ∷ l) = ap (λ r. x ∷ r) (none l)

  pub more_none : has_name names (numbered_name name (pos n)) ≡ false → numbers_below (n + 1) names name ≡ numbers_below n names name
  more_none h = one_more ∙ ap (λ b. numbers_below n names name ++ cond b (n ∷ []) []) h ∙ none (numbers_below n names name)

pub nothing_below : (names : List (List ℕ)) (name : List ℕ) → [] ≡ numbers_below 0 names name
unfolding numbers_below
nothing_below names name = refl
