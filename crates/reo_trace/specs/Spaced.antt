-- Texts in a row, with single spaces between.
use Rattle.std.specs.Prelude.{ℕ, zero, suc, List, [], ◌∷◌, map}
use Rattle.std.specs.List.{join_with_byte}

-- The texts of some things, with one space between each two.
abbrev pub spaced : {X : Type 0} → (X → List ℕ) → List X → List ℕ
spaced text xs = join_with_byte 32 (map text xs)

-- What stands before the text at a place: nothing before the first.
abbrev pub gap : ℕ → List ℕ
gap zero = []
gap (suc place) = 32 ∷ []
