-- The numbers that digits stand for are below ten to the number of digits.
use Rattle.std.proofs.Common.{◌≡◌, ℕ, suc, ◌+◌, ◌-◌, ◌*◌, ◌^◌, ◌≤◌, ◌<◌, true, false, ◌&&◌, List, [], ◌∷◌, length, sym, ◌∙◌, ap, subst, arith, nat_le, mul-one, mul_assoc, one-mul}
use Rattle.std.proofs.lemmas.Bool.{and_parts}
use Rattle.std.specs.List.{list_all}
use Rattle.std.proofs.Math.Nat.{pow-succ', pow-le-pow_right}
use Rattle.std.proofs.lemmas.Bool.Decides.{nat_tests}
use Rattle.reo_grammar.specs.declared.kind.TokenKind.{TokenKind}
use Rattle.reo_grammar.specs.declared.kind.TokenKind.TheVariants as kinds
use Rattle.reo_values.specs.Names.{is_digit}
use Rattle.reo_grammar.specs.Spelling.{spells, is_short, is_digits}
use Rattle.reo_grammar.specs.Tokens.{Lexeme, is_real, number_from}

digit-bound : (b : ℕ) → is_digit b ≡ true → b - 48 ≤ 9
digit-bound b h =
    let k : nat_le b 57 ≡ true = (and_parts (nat_le 48 b) (nat_le b 57) h).1 in
    let l : b ≤ 57 = grind (arith, nat_tests) in omega arith

pub number-below : (n m : ℕ) (bs : List ℕ) → list_all is_digit bs ≡ true → n < m → number_from n bs < m * 10 ^ length bs
number-below n m [] e h = omega (arith, mul-one m)
number-below n m (b ∷ bs) e h =
    let d : b - 48 ≤ 9 = digit-bound b ((and_parts (is_digit b) (list_all is_digit bs) e).0) in
    let i : number_from (n * 10 + (b - 48)) bs < (m * 10) * 10 ^ length bs = number-below (n * 10 + (b - 48)) (m * 10) bs ((and_parts (is_digit b) (list_all is_digit bs) e).1) (omega arith) in
    let w : (m * 10) * 10 ^ length bs ≡ m * 10 ^ suc (length bs) = mul_assoc m 10 (10 ^ length bs) ∙ ap (λ z. m * z) (sym (pow-succ' 10 (length bs))) in
    subst (λ z. number_from (n * 10 + (b - 48)) bs < z) w i

-- A number that texts have is below 10 ^ 18.
pub real-number-below : (t : Lexeme) → t.kind ≡ kinds.Number → is_real t ≡ true → number_from 0 t.bytes < 10 ^ 18
real-number-below t k h = by t.kind t.bytes k h
  where
    short : (n : ℕ) → nat_le n 18 ≡ true → n ≤ 18
    short n h = grind (arith, nat_tests)

    below : (x y z : ℕ) → x < y → y ≡ z → z ≤ 10 ^ 18 → x < 10 ^ 18
    below x y z h e k = omega arith

    by : (k : TokenKind) (b : List ℕ) → k ≡ kinds.Number → (spells k b && is_short k b) ≡ true → number_from 0 b < 10 ^ 18
    by k [] e h = let q : false ≡ true = rw e at h in absurd (cc)
    by k (b ∷ bs) e h =
        let q : (is_digits (b ∷ bs) && nat_le (length (b ∷ bs)) 18) ≡ true = rw e at h in
        let l : nat_le (length (b ∷ bs)) 18 ≡ true = (and_parts (is_digits (b ∷ bs)) (nat_le (length (b ∷ bs)) 18) q).1 in
        let s : length (b ∷ bs) ≤ 18 = short (length (b ∷ bs)) l in
        let i : number_from 0 (b ∷ bs) < 1 * 10 ^ length (b ∷ bs) = number-below 0 1 (b ∷ bs) ((and_parts (is_digits (b ∷ bs)) (nat_le (length (b ∷ bs)) 18) q).0) (omega arith) in
        let j : 10 ^ length (b ∷ bs) ≤ 10 ^ 18 = pow-le-pow_right (omega arith) s in
        let o : 1 * 10 ^ length (b ∷ bs) ≡ 10 ^ length (b ∷ bs) = one-mul (10 ^ length (b ∷ bs)) in
        below (number_from 0 (b ∷ bs)) (1 * 10 ^ length (b ∷ bs)) (10 ^ length (b ∷ bs)) i o j
