-- Laws of comparisons of numbers that several crates use.
use Rattle.std.proofs.Common.{arith, nat_lt, true, ℕ, ◌≡◌, ◌∷◌, ap, ◌++◌, zero, [], ◌∙◌, List, suc, ◌+◌}
use Rattle.std.proofs.lemmas.Bool.Decides.{nat_tests}
use Rattle.std.specs.Prelude.{nat_lt}
use Rattle.std.specs.List.{range_with_len}

pub range_more : (a n : ℕ) → range_with_len a (suc n) ≡ range_with_len a n ++ (a + n) ∷ []
range_more a zero = ap (λ (x : ℕ). x ∷ []) (omega arith)
range_more a (suc n) =
    let shift : (a + 1) + n ≡ a + suc n = omega arith in
    ap (λ (xs : List ℕ). a ∷ xs) (range_more (a + 1) n ∙ ap (λ (x : ℕ). range_with_len (a + 1) n ++ x ∷ []) shift)

pub one_on : (n m : ℕ) → nat_lt (1 + n) (suc m) ≡ nat_lt n m
one_on n m = grind (arith, nat_tests)

pub positive : (m : ℕ) → nat_lt 0 (suc m) ≡ true
positive m = grind (arith, nat_tests)
