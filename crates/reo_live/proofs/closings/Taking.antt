-- The first of some bytes and then others.
use Rattle.std.proofs.Common.{◌≡◌, ◌∙◌, inl, inr, ℕ, ◌+◌, ◌-◌, ◌≤◌, List, ◌++◌, length, take, sym, ap, arith}
use Rattle.std.proofs.lemmas.Bool.{cases_lt}
use Rattle.std.proofs.lemmas.List.{take-append-le, take_all, append-nil}
use Rattle.std.proofs.Math.Seq.{take-append-add}

longer : (n k : ℕ) (xs ys : List ℕ) → n ≡ length xs + k → take n (xs ++ ys) ≡ take n xs ++ take k ys
longer n k xs ys e =
    let few : length xs ≤ n = omega (arith, e) in
    ap (λ m. take m (xs ++ ys)) e ∙ (take-append-add xs ys k ∙ ap (λ zs. zs ++ take k ys) (sym (take_all n xs few)))

-- Of both, the first n are the first n of the one, and as many of the other as are then missing.
pub take_both : (n : ℕ) (xs ys : List ℕ) → take n (xs ++ ys) ≡ take n xs ++ take (n - length xs) ys
take_both n xs ys = elim (cases_lt n (length xs)) [
  | inl less ↦
      let none : n - length xs ≡ 0 = omega (arith, less) in
      let few : n ≤ length xs = omega (arith, less) in
      take-append-le n xs ys few ∙ (sym (append-nil (take n xs)) ∙ ap (λ k. take n xs ++ take k ys) (sym none))
  | inr more ↦ longer n (n - length xs) xs ys (omega (arith, more))
]
