-- Digits, and the numbers that are written in them.
use Rattle.std.specs.Prelude.{ℕ, ◌≡◌, ◌<◌, ◌≤◌, ◌^◌, List, [], ◌∷◌, length, slice_index_or}

-- Numbers of traces and logs are below 2^63.
abbrev pub IsSmall : ℕ → Type 0
IsSmall n = n < 2 ^ 63

-- `0` to `9`.
abbrev pub IsDigit : ℕ → Type 0
IsDigit byte = (48 ≤ byte) × (byte ≤ 57)

-- What begins with no digit: nothing, or another byte and what follows it.
abbrev pub NoDigit : List ℕ → Type 0
NoDigit [] = Unit {0}
NoDigit (byte ∷ bytes) = IsDigit byte → ⊥

-- Some digits, at most 19, and more than one only where the first is no `0`.
abbrev pub HasFewDigits : List ℕ → Type 0
HasFewDigits digits = (0 < length digits) × (length digits ≤ 19) × (slice_index_or digits 0 0 ≡ 48 → length digits ≡ 1)
