-- The number that a word is.
use Rattle.std.proofs.Common.{◌≡◌, ◌∙◌, inl, inr, ℕ, ℤ, pos, ◌<◌, ◌^◌, ◌-◌, ◌≤ℤ◌, List, sym, refl, arith}
use Rattle.std.specs.Prelude.{◌≢◌}
use Rattle.std.specs.Fmt.{signed_decimal}
use Rattle.std.proofs.lemmas.Int.{ints}
use Rattle.std.proofs.lemmas.Fmt.{decimal_injective}
use Rattle.reo_draw_command.specs.Rounds.{IsNumberOf}

small : (n : ℕ) → n < 2 ^ 63 → n < 2 ^ 64
small n lt = omega (arith, lt)

-- A word is that of one number.
pub one_number : (word : List ℕ) (m n : ℕ) → IsNumberOf word m → IsNumberOf word n → m ≡ n
one_number word m n (inl a) (inl b) = decimal_injective m n (small m a.1) (small n b.1) (sym a.2 ∙ b.2)
one_number word m n (inl a) (inr b) = absurd (b.1 m a.0 a.1 a.2)
one_number word m n (inr a) (inl b) = absurd (a.1 n b.0 b.1 b.2)
one_number word m n (inr a) (inr b) = a.0 ∙ sym b.0

-- Where no number is read from a word, it is that of none.
pub none_read : (word : List ℕ) → ((z : ℤ) → pos 1 ≤ℤ z → z ≤ℤ pos (2 ^ 63 - 1) → word ≢ signed_decimal z) → IsNumberOf word 0
none_read word none = inr (refl, λ k low high is. none (pos k) (omega (arith, ints, low)) (omega (arith, ints, high)) is)
