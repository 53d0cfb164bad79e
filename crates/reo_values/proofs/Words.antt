-- Words, and where they end.
use Rattle.std.proofs.Common.{◌≡◌, ◌==◌, ◌||◌, ◌&&◌, not, Bool, true, ◌<◌, ◌+◌, ◌%◌, ◌^◌, ℕ, ℤ, pos, negsuc, suc, List, [], ◌∷◌, ◌++◌, inl, inr, ap, refl, sym, subst, drop, arith}
use Rattle.std.specs.Prelude.{FitsSigned}
use Rattle.std.specs.Int.{w64}
use Rattle.std.specs.Fmt.{decimal, signed_decimal}
use Rattle.std.proofs.lemmas.Fmt.{decimal_by_steps}
use Rattle.std.proofs.lemmas.List.Elements.{All-nil, All-cons, All-head, All-tail, All-push, All-weaker}
use Rattle.reo_values.specs.Reading.{IsEnd, IsWord, Ends}
use Rattle.reo_values.specs.Names.{IsName, IsNameByte}
use Rattle.reo_values.proofs.Numbers.{mag_small}

-- the first byte, where there is one
abbrev pub first_or : List ℕ → ℕ
first_or [] = 0
first_or (byte ∷ bytes) = byte

minus_no-end : IsEnd 45 → ⊥
minus_no-end (inl e) = omega arith
minus_no-end (inr e) = omega arith

word_head : (byte : ℕ) (bytes : List ℕ) → IsWord (byte ∷ bytes) → IsEnd byte → ⊥
word_head byte bytes w = All-head (λ b. ¬ IsEnd b) byte bytes w

word_tail : (byte : ℕ) (bytes : List ℕ) → IsWord (byte ∷ bytes) → IsWord bytes
word_tail byte bytes w = All-tail (λ b. ¬ IsEnd b) byte bytes w

-- the end of a word tells the word and what comes after it
pub word_unique : (w v r s : List ℕ) → IsWord w → IsWord v → Ends r → Ends s → w ++ r ≡ v ++ s → (w ≡ v) × (r ≡ s)
word_unique [] [] r s a b p q e = (refl, e)
word_unique [] (c ∷ cs) [] s a b p q e = absurd (cc)
word_unique [] (c ∷ cs) (d ∷ ds) s a b p q e = absurd (word_head c cs b (subst IsEnd (ap first_or e) p))
word_unique (c ∷ cs) [] r [] a b p q e = absurd (cc)
word_unique (c ∷ cs) [] r (d ∷ ds) a b p q e = absurd (word_head c cs a (subst IsEnd (sym (ap first_or e)) q))
word_unique (c ∷ cs) (d ∷ ds) r s a b p q e =
    let more = word_unique cs ds r s (word_tail c cs a) (word_tail d ds b) p q (ap (λ l. drop 1 l) e) in
    ((λ i. first_or (e i) ∷ more.0 i), more.1)

digit_no-end : (d : ℕ) → IsEnd (48 + d) → ⊥
digit_no-end d (inl e) = omega arith
digit_no-end d (inr e) = omega arith

-- a number's text is a word
pub IsWord-decimal : (n : ℕ) → n < 2 ^ 64 → IsWord (decimal n)
IsWord-decimal n h =
    decimal_by_steps (λ m ds. IsWord ds)
    (λ m l. All-cons (λ b. ¬ IsEnd b) (48 + m) [] (digit_no-end m) (All-nil (λ b. ¬ IsEnd b)))
    (λ m ds l w. All-push (λ b. ¬ IsEnd b) ds (48 + m % 10) w (digit_no-end (m % 10)))
    n h

pub IsWord-signed : (z : ℤ) → FitsSigned w64 z → IsWord (signed_decimal z)
IsWord-signed (pos n) f = IsWord-decimal n (omega (arith, mag_small (pos n) f))
IsWord-signed (negsuc n) f = All-cons (λ b. ¬ IsEnd b) 45 (decimal (suc n)) minus_no-end (IsWord-decimal (suc n) (omega (arith, mag_small (negsuc n) f)))

name_no-end : (byte : ℕ) → IsNameByte byte → IsEnd byte → ⊥
name_no-end byte h e = grind arith

-- a name is a word
pub IsWord-name : (name : List ℕ) → IsName name → IsWord name
IsWord-name [] h = absurd h
IsWord-name (byte ∷ bytes) h = All-cons (λ b. ¬ IsEnd b) byte bytes (name_no-end byte (inr h.0)) (All-weaker IsNameByte (λ b. ¬ IsEnd b) name_no-end bytes h.1)

abbrev pub is_word : List ℕ → Bool
is_word [] = true
is_word (byte ∷ bytes) = not ((byte == 44) || (byte == 41)) && is_word bytes

-- a word is told by a test
pub IsWord-tested : (bytes : List ℕ) → is_word bytes ≡ true → IsWord bytes
IsWord-tested [] h = All-nil (λ b. ¬ IsEnd b)
IsWord-tested (byte ∷ bytes) h = All-cons (λ b. ¬ IsEnd b) byte bytes (grind arith) (IsWord-tested bytes (grind arith))
