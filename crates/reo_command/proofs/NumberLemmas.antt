-- Numbers of at most ten digits.
use Rattle.std.proofs.Common.{◌≡◌, ℕ, zero, suc, ◌+◌, ◌-◌, ◌*◌, ◌≤◌, ◌<◌, true, List, [], ◌∷◌, length, arith, nat_le}
use Rattle.std.proofs.lemmas.Bool.{and_parts}
use Rattle.std.specs.List.{list_all}
use Rattle.std.proofs.lemmas.Bool.Decides.{nat_tests}
use Rattle.reo_values.specs.Names.{is_digit}
use Rattle.reo_grammar.specs.Tokens.{number_from}

-- The greatest number of so many further digits.
abbrev ceiling : ℕ → ℕ → ℕ
ceiling m zero = m
ceiling m (suc k) = ceiling (m * 10 + 9) k

ceiling-grows : (m k : ℕ) → m ≤ ceiling m k
ceiling-grows m zero = omega arith
ceiling-grows m (suc k) = let i : m * 10 + 9 ≤ ceiling (m * 10 + 9) k = ceiling-grows (m * 10 + 9) k in omega arith

pub digit-most : (b : ℕ) → is_digit b ≡ true → b ≤ 57
digit-most b h = let k : nat_le b 57 ≡ true = (and_parts (nat_le 48 b) (nat_le b 57) h).1 in grind (arith, nat_tests)

below : (bs : List ℕ) (n m k : ℕ) → list_all is_digit bs ≡ true → length bs ≤ k → n ≤ m → number_from n bs ≤ ceiling m k
below [] n m k e few le = let i : m ≤ ceiling m k = ceiling-grows m k in omega arith
below (b ∷ bs) n m zero e few le = absurd (omega arith)
below (b ∷ bs) n m (suc k) e few le =
    let d : b ≤ 57 = digit-most b ((and_parts (is_digit b) (list_all is_digit bs) e).0) in
    below bs (n * 10 + (b - 48)) (m * 10 + 9) k ((and_parts (is_digit b) (list_all is_digit bs) e).1) (omega arith) (omega arith)

-- Ten digits are few.
pub ten-digits : (bs : List ℕ) → list_all is_digit bs ≡ true → length bs ≤ 10 → number_from 0 bs < 1000000000000000000
ten-digits bs e few = let h : number_from 0 bs ≤ 9999999999 = below bs 0 0 10 e few (omega arith) in omega arith
