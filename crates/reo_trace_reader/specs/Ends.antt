-- What may come after the parts of a line.
use Rattle.std.specs.Prelude.{ℕ, ◌≡◌, List, [], ◌∷◌}
use Rattle.reo_values.specs.decimals.Digits.{IsDigit}

-- After a number, where something comes after it: a byte that is no digit, and what follows it.
abbrev pub BeginsNoDigit : List ℕ → Type 0
BeginsNoDigit [] = ⊥
BeginsNoDigit (byte ∷ bytes) = IsDigit byte → ⊥

-- After the last part of a line: nothing, or a line feed.
abbrev pub EndsLine : List ℕ → Type 0
EndsLine [] = Unit {0}
EndsLine (byte ∷ bytes) = byte ≡ 10

-- After a move: a space.
abbrev pub EndsMove : List ℕ → Type 0
EndsMove [] = ⊥
EndsMove (byte ∷ bytes) = byte ≡ 32

-- After what has an end of its own: anything.
abbrev pub Anything : List ℕ → Type 0
Anything bytes = Unit {0}
