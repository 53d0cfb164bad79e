-- Bits of one word.
use Rattle.std.proofs.Common.{◌≡◌, ℕ, ◌+◌, ◌-◌, ◌/◌, ◌%◌, ◌^◌, ◌<◌, true, false, eqb, ap, arith}
use Rattle.std.proofs.lemmas.Nat.{shr-shr}
use Rattle.std.specs.Int.{bit_at}

-- A digit that is 1, or not.
pub is_one : (d : ℕ) → d ≡ 1 → eqb d 1 ≡ true
is_one d e = ap (λ n. eqb n 1) e

pub is_none : (d : ℕ) → d ≡ 0 → eqb d 1 ≡ false
is_none d e = ap (λ n. eqb n 1) e

-- A bit of a shifted word.
pub shifted : (word by i : ℕ) → bit_at (word / 2 ^ by) i ≡ bit_at word (by + i)
shifted word by i = ap (λ x. x % 2) (shr-shr word by i)

-- A bit of the word of all others.
pub one_less : (d : ℕ) → d < 2 → 1 - d ≡ 1 → eqb d 1 ≡ false
one_less d lt e = is_none d (omega arith)

pub none_less : (d : ℕ) → d < 2 → 1 - d ≡ 0 → eqb d 1 ≡ true
none_less d lt e = is_one d (omega arith)
