-- Classes of bytes, and tests on lists of bytes.
use Rattle.std.specs.Prelude.{ℕ, ◌==◌, Bool, true, false, ◌&&◌, ◌||◌, not, List, [], ◌∷◌, nat_le}
use Rattle.std.specs.Str.{bytes_eq}
use Rattle.reo_values.specs.Bytes.{quote, backslash}

-- A byte that a text holds as it is: 0x20 to 0x7E, but no `"` and no `\`.
abbrev pub is_unescaped : ℕ → Bool
is_unescaped b = (nat_le 32 b && nat_le b 126) && (not (b == quote) && not (b == backslash))

-- A byte that a `\` stands before in a text: `"` or `\`.
abbrev pub is_escaped : ℕ → Bool
is_escaped b = b == quote || b == backslash

abbrev pub is_empty : List ℕ → Bool
is_empty [] = true
is_empty (b ∷ bs) = false

-- The bytes are one of a list.
abbrev pub one_of : List ℕ → List (List ℕ) → Bool
one_of b [] = false
one_of b (x ∷ xs) = bytes_eq b x || one_of b xs
