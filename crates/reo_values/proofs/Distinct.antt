-- When the names of a list are each there once.
use Rattle.std.proofs.Common.{◌≡◌, ◌∙◌, ◌<◌, ◌+◌, ℕ, List, [], ◌⊎◌, inl, inr, length, take, get_or, subst, sym, arith}
use Rattle.std.specs.List.{Contains}
use Rattle.std.proofs.lemmas.List.{get_or-take}
use Rattle.std.proofs.lemmas.List.Elements.{Contains-get_or}
use Rattle.std.proofs.lemmas.Grind.{common_steps}

-- no name stands twice before the place n
abbrev pub Apart : List (List ℕ) → ℕ → Type 0
Apart names n = (i j : ℕ) → i < n → j < n → get_or names i [] ≡ get_or names j [] → i ≡ j

pub below_or_last : (i n : ℕ) → i < n + 1 → (i < n) ⊎ (i ≡ n)
below_or_last i n h = grind arith

module _ (names : List (List ℕ)) (n : ℕ) (inside : n < length names) (apart : Apart names n) (fresh : Contains (take n names) (get_or names n []) → ⊥) where
  new : (k : ℕ) → k < n → get_or names k [] ≡ get_or names n [] → ⊥
  new k h e =
      let short : k < length (take n names) = grind (arith, common_steps) in
      fresh (subst (λ name. Contains (take n names) name) (get_or-take n names k [] h ∙ e) (Contains-get_or (take n names) k [] short))

  cases : (i j : ℕ) → (i < n) ⊎ (i ≡ n) → (j < n) ⊎ (j ≡ n) → get_or names i [] ≡ get_or names j [] → i ≡ j
  cases i j (inl a) (inl b) e = apart i j a b e
  cases i j (inl a) (inr b) e = absurd (new i a (e ∙ (λ k. get_or names (b k) [])))
  cases i j (inr a) (inl b) e = absurd (new j b (sym e ∙ (λ k. get_or names (a k) [])))
  cases i j (inr a) (inr b) e = a ∙ sym b

  -- one more name that was not there before
  pub Apart-more : Apart names (n + 1)
  Apart-more i j a b e = cases i j (below_or_last i n a) (below_or_last j n b) e
