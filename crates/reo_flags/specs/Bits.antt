-- Bits in a row of words of 64.
use Rattle.std.specs.Prelude.{◌≡◌, ℕ, ◌+◌, ◌*◌, ◌/◌, ◌%◌, ◌^◌, ◌<◌, ◌≤◌, ◌==◌, Bool, false, not, List, map, length, slice_index}
use Rattle.std.specs.Int.{bit_at}
use Rattle.std.specs.List.{range_with_len}

-- Whether a bit of a word is set.
abbrev pub bit_of : ℕ → ℕ → Bool
bit_of word i = bit_at word i == 1

-- Whether a bit of a row of words is set.
abbrev pub bit : List ℕ → ℕ → Bool
bit words k = bit_of (slice_index words (k / 64)) (k % 64)

-- The first so many bits of a row of words.
abbrev pub flags_of : ℕ → List ℕ → List Bool
flags_of count words = map (bit words) (range_with_len 0 count)

-- The words have more than so many bits, by one word at most, and bits have numbers that fit in a
-- word.
pub record AreEnough (count : ℕ) (words : List ℕ) : Type 0 where
  pub enough : length words ≡ count / 64 + 1
  pub few : 64 * length words < 2 ^ 64

-- The first n bits stay where those of others have this value, and the others of them are clear.
pub record AreKeptBits (value : Bool) (marks : List ℕ) (n : ℕ) (old new : List ℕ) : Type 0 where
  pub one_each : length new ≡ length old
  pub kept : (k : ℕ) → k < n → bit marks k ≡ value → bit new k ≡ bit old k
  pub gone : (k : ℕ) → k < n → bit marks k ≡ not value → bit new k ≡ false

-- The place is the least from another on whose bit has this value, or the number of bits if none has.
pub record IsNextBit (value : Bool) (words : List ℕ) (from place : ℕ) : Type 0 where
  pub from_on : from ≤ place
  pub in_range : place ≤ 64 * length words
  pub none_before : (k : ℕ) → from ≤ k → k < place → bit words k ≡ not value
  pub here : place < 64 * length words → bit words place ≡ value
