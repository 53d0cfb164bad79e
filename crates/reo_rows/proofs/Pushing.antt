-- Lists that grow.
use Rattle.std.proofs.Common.{◌≡◌, inl, inr, ℕ, ◌+◌, ◌<◌, List, [], ◌∷◌, ◌++◌, length, get_or, ap, sym, ◌∙◌, subst, arith}
use Rattle.std.proofs.Math.Seq.{get_or-append_seam}
use Rattle.std.proofs.lemmas.Bool.{cases_eq}
use Rattle.std.proofs.lemmas.List.{get_or_append_left}

-- What holds of each at its place, and of one more at the next.
pub pushed_each : (X : Type 0) (P : ℕ → X → Type 0) (xs : List X) (x : X) (n : ℕ) → length xs ≡ n → ((k : ℕ) (d : X) → k < n → P k (get_or xs k d)) → P n x
    → (k : ℕ) (d : X) → k < n + 1 → P k (get_or (xs ++ x ∷ []) k d)
pushed_each X P xs x n count each here k d lt = elim (cases_eq k n) [
  | inl last ↦
      let is : get_or (xs ++ x ∷ []) k d ≡ x = ap (λ (m : ℕ). get_or (xs ++ x ∷ []) m d) (last ∙ sym count) ∙ get_or-append_seam xs x [] d in
      subst (λ (y : X). P k y) (sym is) (subst (λ (m : ℕ). P m x) (sym last) here)
  | inr other ↦
      let before : k < length xs = omega arith in
      subst (λ (y : X). P k y) (sym (get_or_append_left xs (x ∷ []) d k before)) (each k d (omega arith))
]
