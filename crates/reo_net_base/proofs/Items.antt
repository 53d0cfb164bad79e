-- Where items stand in a list.
use Rattle.std.proofs.Common.{◌≡◌, ℕ, zero, suc, ◌<◌, Option, Some, None, List, [], ◌∷◌, length, get_or, arith}
use Rattle.reo_values.specs.declared.value.Value.{Value}

-- Where there is an item there is a place.
pub some_in : (items : List (Option Value)) (i : ℕ) (v : Value) → get_or items i None ≡ Some v → i < length items
some_in [] i v is = absurd (cc)
some_in (x ∷ xs) zero v is = omega arith
some_in (x ∷ xs) (suc i) v is = let rest = some_in xs i v is in omega (arith, rest)
