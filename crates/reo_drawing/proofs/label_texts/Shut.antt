-- What stands in a label does not end it.
use Rattle.std.proofs.Common.{◌≡◌, ◌∙◌, ℕ, ◌^◌, ◌<◌, ◌+◌, ◌%◌, ◌==◌, Bool, true, false, List, [], ◌∷◌, ◌++◌, refl, ap, arith, append_assoc, codes}
use Rattle.std.specs.List.{flat_map, All}
use Rattle.std.specs.Fmt.{decimal}
use Rattle.std.proofs.lemmas.Bool.Decides.{nat_tests}
use Rattle.std.proofs.lemmas.List.Elements.{All-head, All-tail}
use Rattle.reo_values.specs.Names.{is_digit}
use Rattle.std.proofs.lemmas.Fmt.{decimal_by_steps}
use Rattle.std.proofs.lemmas.Nat.{mod_below}
use Rattle.reo_drawing.specs.label_texts.Escape.{escape, is_sign, is_plain, code_text, stays_shut}

-- A plain byte that is no quote and no backslash is passed.
passed : (b : ℕ) (rest : List ℕ) → is_plain b ≡ true → (b == 34) ≡ false → (b == 92) ≡ false → stays_shut false (b ∷ rest) ≡ stays_shut false rest
passed b rest plain quote back = rw (plain, quote, back) refl

digit_plain : (b : ℕ) → is_digit b ≡ true → is_plain b ≡ true
digit_plain b h = grind (arith, nat_tests)

digit_no_quote : (b : ℕ) → is_digit b ≡ true → (b == 34) ≡ false
digit_no_quote b h = grind (arith, nat_tests)

digit_no_backslash : (b : ℕ) → is_digit b ≡ true → (b == 92) ≡ false
digit_no_backslash b h = grind (arith, nat_tests)

digit_passed : (k : ℕ) (rest : List ℕ) → k < 10 → stays_shut false ((48 + k) ∷ rest) ≡ stays_shut false rest
digit_passed k rest h =
    let digit : is_digit (48 + k) ≡ true = grind (arith, nat_tests) in
    passed (48 + k) rest (digit_plain (48 + k) digit) (digit_no_quote (48 + k) digit) (digit_no_backslash (48 + k) digit)

number_passed : (n : ℕ) → n < 2 ^ 64 → (rest : List ℕ) → stays_shut false (decimal n ++ rest) ≡ stays_shut false rest
number_passed n small =
    decimal_by_steps (λ m ds. (rest : List ℕ) → stays_shut false (ds ++ rest) ≡ stays_shut false rest)
    (λ m l rest. digit_passed m rest l)
    (λ m ds l before rest. ap (λ bytes. stays_shut false bytes) (append_assoc ds ((48 + m % 10) ∷ []) rest) ∙ before ((48 + m % 10) ∷ rest) ∙ digit_passed (m % 10) rest (mod_below m 10 (omega arith)))
    n small

code_passed : (b : ℕ) (rest : List ℕ) → b < 256 → stays_shut false (code_text b ++ rest) ≡ stays_shut false rest
unfolding code_text
code_passed b rest small =
    ap (λ bytes. stays_shut false bytes) (append_assoc (codes "&#" ++ decimal b) (codes ";") rest ∙ append_assoc (codes "&#") (decimal b) (codes ";" ++ rest))
    ∙ number_passed b (omega arith) (codes ";" ++ rest)

sign_plain : (b : ℕ) → is_sign b ≡ true → is_plain b ≡ true
sign_plain b h = grind (arith, nat_tests)

-- A byte as it stands in a label is passed.
escape_passed : (b : ℕ) (rest : List ℕ) → b < 256 → stays_shut false (escape b ++ rest) ≡ stays_shut false rest
escape_passed b rest small = by_quote (b == 34) refl where
  by_sign : (s : Bool) → is_sign b ≡ s → (b == 34) ≡ false → (b == 92) ≡ false → (b == 10) ≡ false → stays_shut false (escape b ++ rest) ≡ stays_shut false rest
  by_sign true s q k f = rw (q, k, f, s) (passed b rest (sign_plain b s) q k)
  by_sign false s q k f = rw (q, k, f, s) (code_passed b rest small)

  by_feed : (f : Bool) → (b == 10) ≡ f → (b == 34) ≡ false → (b == 92) ≡ false → stays_shut false (escape b ++ rest) ≡ stays_shut false rest
  by_feed true f q k = rw (q, k, f) refl
  by_feed false f q k = by_sign (is_sign b) refl q k f

  by_backslash : (k : Bool) → (b == 92) ≡ k → (b == 34) ≡ false → stays_shut false (escape b ++ rest) ≡ stays_shut false rest
  by_backslash true k q = rw (q, k) refl
  by_backslash false k q = by_feed (b == 10) refl q k

  by_quote : (q : Bool) → (b == 34) ≡ q → stays_shut false (escape b ++ rest) ≡ stays_shut false rest
  by_quote true q = rw q refl
  by_quote false q = by_backslash (b == 92) refl q

pub all_shut : (text : List ℕ) → All (λ b. b < 256) text → stays_shut false (flat_map escape text) ≡ true
all_shut [] small = refl
all_shut (b ∷ text) small = escape_passed b (flat_map escape text) (All-head (λ b. b < 256) b text small) ∙ all_shut text (All-tail (λ b. b < 256) b text small)
