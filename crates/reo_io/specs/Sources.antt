-- What one call takes from a source, where the bytes left are told.
use Rattle.std.specs.Prelude.{ℕ, ◌≡◌, List, [], ◌++◌, take, Option, Result, None, Some, Ok, Err}

-- Bytes that were told before are told after: an answer n has taken the first n, no byte comes only where none is left, and an error takes none.
abbrev pub Takes : {E : Type 0} → Option (List ℕ) → Option (List ℕ) → List ℕ → Result ℕ E → Type 0
Takes None after room result = Unit {0}
Takes (Some left) after room (Ok count) = (rest : List ℕ) × (after ≡ Some rest) × (left ≡ take count room ++ rest) × (count ≡ 0 → left ≡ [])
Takes (Some left) after room (Err _) = after ≡ Some left
