-- Numbers at the front of a text are told by their digits.
use Rattle.std.proofs.Common.{◌≡◌, ◌∙◌, ◌<◌, ◌≤◌, ◌+◌, ◌-◌, ◌*◌, ◌%◌, ◌^◌, ℕ, zero, suc, List, [], ◌∷◌, ◌++◌, ap, sym, subst, drop, take, length, get_or, arith}
use Rattle.std.specs.Fmt.{decimal}
use Rattle.std.specs.List.{All}
use Rattle.std.specs.Str.Parse.{digits_value}
use Rattle.std.proofs.lemmas.Fmt.{decimal_by_steps, digits_value-decimal, decimal-digits_value, length-decimal-le, decimal_nonempty, first_decimal, decimal_digit, decimal_injective}
use Rattle.std.proofs.lemmas.Grind.{common_steps}
use Rattle.std.proofs.lemmas.Int.Digits.{digits_value_more}
use Rattle.std.proofs.lemmas.List.{take-append-drop}
use Rattle.std.proofs.lemmas.List.Elements.{All-nil, All-cons, All-push, All-head, All-tail, All-take, All-get_or}
use Rattle.std.proofs.lemmas.Str.{digit_value_digit}
use Rattle.std.proofs.lemmas.Str.Parse.{IsNumeralModel, IsDigitsTest, numerals_by_value, digits_value_short}
use Rattle.reo_values.proofs.Words.{first_or}
use Rattle.reo_values.specs.decimals.Digits.{HasFewDigits, IsDigit, IsSmall, NoDigit}
use Rattle.reo_values.proofs.decimals.Fronts.{NotFirst, front_unique}

-- Bytes that often stand behind a number are no digits.
pub feed_no_digit : IsDigit 10 → ⊥
feed_no_digit h = omega arith

pub space_no_digit : IsDigit 32 → ⊥
space_no_digit h = omega arith

pub dot_no_digit : IsDigit 46 → ⊥
dot_no_digit h = omega arith

pub colon_no_digit : IsDigit 58 → ⊥
colon_no_digit h = omega arith

no_digit_first : (bytes : List ℕ) → NoDigit bytes → NotFirst IsDigit bytes
no_digit_first [] h = tt
no_digit_first (byte ∷ bytes) h = h

-- The end of the digits tells the digits and what comes after them.
pub digits_unique : (w v r s : List ℕ) → All IsDigit w → All IsDigit v → NoDigit r → NoDigit s → w ++ r ≡ v ++ s → (w ≡ v) × (r ≡ s)
digits_unique w v r s a b p q e = front_unique IsDigit w v r s a b (no_digit_first r p) (no_digit_first s q) e

digit_small : (m : ℕ) → m < 10 → IsDigit (48 + m)
digit_small m l = (omega arith, omega arith)

last_digit : (m : ℕ) → IsDigit (48 + m % 10)
last_digit m = (omega arith, omega arith)

-- A number is written in digits.
pub digits_of_decimal : (n : ℕ) → n < 2 ^ 64 → All IsDigit (decimal n)
digits_of_decimal n h =
    decimal_by_steps (λ m ds. All IsDigit ds)
    (λ m l. All-cons IsDigit (48 + m) [] (digit_small m l) (All-nil IsDigit))
    (λ m ds l w. All-push IsDigit ds (48 + m % 10) w (last_digit m))
    n h

-- A number and what comes after it, if that begins with no digit, are told from the text.
pub decimal_unique : (m n : ℕ) (r s : List ℕ) → m < 2 ^ 64 → n < 2 ^ 64 → NoDigit r → NoDigit s → decimal m ++ r ≡ decimal n ++ s → (m ≡ n) × (r ≡ s)
decimal_unique m n r s a b p q e =
    let parts = digits_unique (decimal m) (decimal n) r s (digits_of_decimal m a) (digits_of_decimal n b) p q e in
    (decimal_injective m n a b parts.0, parts.1)

-- So are small numbers.
pub small_unique : (m n : ℕ) (r s : List ℕ) → IsSmall m → IsSmall n → NoDigit r → NoDigit s → decimal m ++ r ≡ decimal n ++ s → (m ≡ n) × (r ≡ s)
small_unique m n r s a b p q e = decimal_unique m n r s (omega (arith, a)) (omega (arith, b)) p q e

-- A text is that of one number.
pub decimal_same : (m n : ℕ) → IsSmall m → IsSmall n → decimal m ≡ decimal n → m ≡ n
decimal_same m n h g e = decimal_injective m n (omega arith) (omega arith) e

-- What begins with no digit is no number and what comes after it.
pub decimal_no_other : (n : ℕ) (r s : List ℕ) → n < 2 ^ 64 → NoDigit r → NoDigit s → decimal n ++ r ≡ s → ⊥
decimal_no_other n r s a p q e =
    let parts = digits_unique (decimal n) [] r s (digits_of_decimal n a) (All-nil IsDigit) p q e in
    let none : length (decimal n) ≡ 0 = ap (λ l. length l) parts.0 in
    let some = decimal_nonempty n a in
    omega arith

-- A number begins with a digit.
pub decimal_first : (n : ℕ) (byte : ℕ) (rest bytes : List ℕ) → IsSmall n → decimal n ++ rest ≡ byte ∷ bytes → IsDigit byte
decimal_first n byte rest bytes h e = by (decimal n) (digits_of_decimal n (omega arith)) (decimal_nonempty n (omega arith)) e
  where
    by : (ds : List ℕ) → All IsDigit ds → 0 < length ds → ds ++ rest ≡ byte ∷ bytes → IsDigit byte
    by [] digits some e = absurd (omega arith)
    by (d ∷ ds) digits some e = subst IsDigit (ap first_or e) (All-head IsDigit d ds digits)

-- The digits in front are those of the number in front.
pub number_front : (old rest : List ℕ) (count n : ℕ) → All IsDigit (take count old) → NoDigit (drop count old) → IsSmall n → NoDigit rest → old ≡ decimal n ++ rest
    → (take count old ≡ decimal n) × (drop count old ≡ rest)
number_front old rest count n digits ends h stop e =
    digits_unique (take count old) (decimal n) (drop count old) rest digits (digits_of_decimal n (omega arith)) ends stop (grind (arith, common_steps))

-- Digits in front that are those of a number, and what follows them.
pub number_back : (old : List ℕ) (count n : ℕ) → take count old ≡ decimal n → old ≡ decimal n ++ drop count old
number_back old count n e = sym (take-append-drop count old) ∙ ap (λ (l : List ℕ). l ++ drop count old) e

tells : IsDigitsTest (λ ds. All IsDigit ds)
tells = record {
  empty = All-nil IsDigit;
  parts = λ c cs h. (All-head IsDigit c cs h, All-tail IsDigit c cs h);
  more = λ c cs d h. All-cons IsDigit c cs d h;
}

own : IsNumeralModel (λ ds. All IsDigit ds) (digits_value 10)
own = numerals_by_value (λ ds. All IsDigit ds) tells

-- The digits of a number say it.
pub decimal_value : (n : ℕ) → IsSmall n → digits_value 10 (decimal n) ≡ n
decimal_value n h = digits_value-decimal own n (omega arith)

-- A number is written in few digits.
pub decimal_few : (n : ℕ) → IsSmall n → HasFewDigits (decimal n)
decimal_few zero h = (decimal_nonempty zero (omega arith), length-decimal-le 19 zero (omega arith) (omega arith) (omega arith), λ z. ap (λ l. length l) (decimal_digit zero (omega arith)))
decimal_few (suc n) h = (decimal_nonempty (suc n) (omega arith), length-decimal-le 19 (suc n) (omega arith) (omega arith) (omega arith), λ z. absurd (omega (arith, first_decimal (suc n) (omega arith) (omega arith))))

-- Few digits are those of their number.
pub few_decimal : (ds : List ℕ) (n : ℕ) → All IsDigit ds → HasFewDigits ds → n ≡ digits_value 10 ds → IsSmall n → ds ≡ decimal n
few_decimal ds n digits few e h = sym (ap (λ m. decimal m) e ∙ decimal-digits_value own ds digits few.0 few.2 (omega arith))

-- One more digit.
pub value_more : (ds : List ℕ) (i value : ℕ) → All IsDigit ds → i < length ds → length ds ≤ 19 → value ≡ digits_value 10 (take i ds)
    → (value * 10 + (get_or ds i 0 - 48) ≡ digits_value 10 (take (i + 1) ds)) × (digits_value 10 (take (i + 1) ds) < 10 ^ 19)
value_more ds i value digits within few e =
    let d : IsDigit (get_or ds i 0) = All-get_or IsDigit ds i 0 within digits in
    let one = digit_value_digit (get_or ds i 0) d in
    let more = digits_value_more 10 ds i within in
    (omega arith, digits_value_short own (take (i + 1) ds) 19 (All-take IsDigit (i + 1) ds digits) (grind (arith, common_steps)))
