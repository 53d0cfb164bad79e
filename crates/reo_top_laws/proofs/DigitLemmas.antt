-- Numbers in decimal, with zeros before them.
use Rattle.std.proofs.Common.{◌≡◌, ◌∙◌, ◌⊎◌, inl, inr, ℕ, zero, suc, ◌^◌, ◌≤◌, ◌<◌, true, List, [], ◌∷◌, ◌++◌, length, replicate, refl, sym, ap, subst, arith}
use Rattle.std.proofs.lemmas.Bool.{and_parts, and_from}
use Rattle.std.proofs.Math.Nat.{eq-or-lt_of_le}
use Rattle.std.specs.Fmt.{decimal}
use Rattle.std.specs.List.{list_all}
use Rattle.std.proofs.lemmas.Bool.Decides.{nat_tests}
use Rattle.std.proofs.lemmas.Fmt.{digits_decimal, digits_value-decimal, decimal-digits_value, decimal_nonempty}
use Rattle.std.proofs.lemmas.Str.Parse.{IsNumeralModel, IsDigitsTest, FoldsDigits, numerals_by_fold}
use Rattle.reo_values.specs.Names.{is_digit}
use Rattle.reo_grammar.specs.Tokens.{number_from}
use Rattle.reo_cursor.proofs.Digits.{digit-least}
use Rattle.reo_command.proofs.NumberLemmas.{digit-most}

digit_is : (b : ℕ) → 48 ≤ b → b ≤ 57 → is_digit b ≡ true
digit_is b low high = grind (arith, nat_tests)

tells : IsDigitsTest (λ ds. list_all is_digit ds ≡ true)
tells = record {
  empty = refl;
  parts = λ c cs h. let d = (and_parts (is_digit c) (list_all is_digit cs) h).0 in ((digit-least c d, digit-most c d), (and_parts (is_digit c) (list_all is_digit cs) h).1);
  more = λ c cs d h. and_from (is_digit c) (list_all is_digit cs) (digit_is c d.0 d.1) h;
}

folds : FoldsDigits number_from
folds = record { empty = λ n. refl; more = λ n c cs h. refl }

own : IsNumeralModel (λ ds. list_all is_digit ds ≡ true) (number_from 0)
own = numerals_by_fold (λ ds. list_all is_digit ds ≡ true) tells number_from folds

-- Zeros in front say nothing, and are digits.
zeros_value : (z : ℕ) (ds : List ℕ) → number_from 0 (replicate z 48 ++ ds) ≡ number_from 0 ds
zeros_value zero ds = refl
zeros_value (suc z) ds = zeros_value z ds

zeros_digits : (z : ℕ) (ds : List ℕ) → list_all is_digit ds ≡ true → list_all is_digit (replicate z 48 ++ ds) ≡ true
zeros_digits zero ds h = h
zeros_digits (suc z) ds h = zeros_digits z ds h

zeros_some : (z : ℕ) (ds : List ℕ) → 0 < length ds → 0 < length (replicate z 48 ++ ds)
zeros_some zero ds h = h
zeros_some (suc z) ds h = omega arith

module _ (z n : ℕ) (small : n < 2 ^ 64) where
  pub value_is : number_from 0 (replicate z 48 ++ decimal n) ≡ n
  value_is = zeros_value z (decimal n) ∙ digits_value-decimal own n small

  pub are_digits : list_all is_digit (replicate z 48 ++ decimal n) ≡ true
  are_digits = zeros_digits z (decimal n) (digits_decimal own n small)

  pub some_digit : 0 < length (replicate z 48 ++ decimal n)
  some_digit = zeros_some z (decimal n) (decimal_nonempty n small)

-- Digits are those of their number, behind zeros.
by_first : (d : ℕ) (ds : List ℕ) → list_all is_digit (d ∷ ds) ≡ true → number_from 0 (d ∷ ds) < 2 ^ 64
    → (number_from 0 ds ≡ number_from 0 (d ∷ ds) → (z : ℕ) × (ds ≡ replicate z 48 ++ decimal (number_from 0 ds)))
    → (48 ≡ d) ⊎ (48 < d) → (z : ℕ) × (d ∷ ds ≡ replicate z 48 ++ decimal (number_from 0 (d ∷ ds)))
by_first d ds digits small more (inl zero_first) =
    let same : number_from 0 ds ≡ number_from 0 (d ∷ ds) = ap (λ (k : ℕ). number_from 0 (k ∷ ds)) zero_first in
    let rest = more same in
    (suc rest.0, ap (λ (k : ℕ). k ∷ ds) (sym zero_first) ∙ ap (λ (l : List ℕ). 48 ∷ l) rest.1 ∙ ap (λ (n : ℕ). 48 ∷ (replicate rest.0 48 ++ decimal n)) same)
by_first d ds digits small more (inr above) =
    (0, sym (decimal-digits_value own (d ∷ ds) digits (omega arith) (λ e. absurd (omega arith)) small))

pub behind_zeros : (ds : List ℕ) → list_all is_digit ds ≡ true → 1 ≤ number_from 0 ds → number_from 0 ds < 2 ^ 64
    → (z : ℕ) × (ds ≡ replicate z 48 ++ decimal (number_from 0 ds))
behind_zeros [] digits some small = absurd (omega arith)
behind_zeros (d ∷ ds) digits some small =
    by_first d ds digits small
    (λ same. behind_zeros ds ((and_parts (is_digit d) (list_all is_digit ds) digits).1) (subst (λ (n : ℕ). 1 ≤ n) (sym same) some) (subst (λ (n : ℕ). n < 2 ^ 64) (sym same) small))
    (eq-or-lt_of_le (digit-least d ((and_parts (is_digit d) (list_all is_digit ds) digits).0)))
