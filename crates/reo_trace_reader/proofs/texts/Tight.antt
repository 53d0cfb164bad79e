-- Words with no space and no quote in them.
use Rattle.std.proofs.Common.{◌≡◌, ◌==◌, ◌||◌, ◌&&◌, not, Bool, true, ◌<◌, ◌+◌, ◌%◌, ◌^◌, ℕ, ℤ, pos, negsuc, suc, List, [], ◌∷◌, inr, get_or, length, arith}
use Rattle.std.specs.Prelude.{FitsSigned}
use Rattle.std.specs.Int.{w64}
use Rattle.std.specs.Fmt.{decimal, signed_decimal}
use Rattle.std.specs.List.{All}
use Rattle.std.proofs.lemmas.Fmt.{decimal_by_steps}
use Rattle.std.proofs.lemmas.List.Elements.{All-nil, All-cons, All-push, All-weaker, All-get_or}
use Rattle.reo_values.specs.Names.{IsName, IsNameByte}
use Rattle.reo_values.specs.Valid.{AreNames}
use Rattle.reo_values.proofs.Numbers.{mag_small}

-- a byte that is no space and no quote
abbrev pub IsTight : ℕ → Type 0
IsTight byte = (byte ≡ 32 → ⊥) × (byte ≡ 34 → ⊥)

abbrev pub AreTight : List ℕ → Type 0
AreTight bytes = All IsTight bytes

digit_tight : (d : ℕ) → IsTight (48 + d)
digit_tight d = ((λ e. omega arith), (λ e. omega arith))

-- a number has no space and no quote
pub AreTight-decimal : (n : ℕ) → n < 2 ^ 64 → AreTight (decimal n)
AreTight-decimal n h =
    decimal_by_steps (λ m ds. AreTight ds)
    (λ m l. All-cons IsTight (48 + m) [] (digit_tight m) (All-nil IsTight))
    (λ m ds l w. All-push IsTight ds (48 + m % 10) w (digit_tight (m % 10)))
    n h

minus_tight : IsTight 45
minus_tight = ((λ e. omega arith), (λ e. omega arith))

pub AreTight-signed : (z : ℤ) → FitsSigned w64 z → AreTight (signed_decimal z)
AreTight-signed (pos n) f = AreTight-decimal n (omega (arith, mag_small (pos n) f))
AreTight-signed (negsuc n) f = All-cons IsTight 45 (decimal (suc n)) minus_tight (AreTight-decimal (suc n) (omega (arith, mag_small (negsuc n) f)))

name_tight : (byte : ℕ) → IsNameByte byte → IsTight byte
name_tight byte h = ((λ e. grind arith), (λ e. grind arith))

-- nor has a name
pub AreTight-name : (name : List ℕ) → IsName name → AreTight name
AreTight-name [] h = absurd h
AreTight-name (byte ∷ bytes) h = All-cons IsTight byte bytes (name_tight byte (inr h.0)) (All-weaker IsNameByte IsTight name_tight bytes h.1)

pub AreTight-name_at : (names : List (List ℕ)) (k : ℕ) → AreNames names → k < length names → AreTight (get_or names k [])
AreTight-name_at names k valid h = AreTight-name _ (All-get_or IsName names k [] h valid.words)

abbrev pub are_tight : List ℕ → Bool
are_tight [] = true
are_tight (byte ∷ bytes) = not ((byte == 32) || (byte == 34)) && are_tight bytes

tight_head : (byte : ℕ) (bytes : List ℕ) → are_tight (byte ∷ bytes) ≡ true → IsTight byte
tight_head byte bytes h = ((λ e. grind arith), (λ e. grind arith))

-- the test of it
pub AreTight-tested : (bytes : List ℕ) → are_tight bytes ≡ true → AreTight bytes
AreTight-tested [] h = All-nil IsTight
AreTight-tested (byte ∷ bytes) h = All-cons IsTight byte bytes (tight_head byte bytes h) (AreTight-tested bytes (grind arith))
