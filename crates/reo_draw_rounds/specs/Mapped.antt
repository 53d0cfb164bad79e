-- What is made of each of some things by its number.
use Rattle.std.specs.Prelude.{ℕ, suc, List, [], ◌∷◌}

-- What is made of each, from this number on.
abbrev pub mapped : {X Y : Type 0} → (ℕ → X → Y) → ℕ → List X → List Y
mapped f i [] = []
mapped f i (x ∷ xs) = f i x ∷ mapped f (suc i) xs
