-- A text for each of some things, by its number.
use Rattle.std.specs.Prelude.{ℕ, suc, ◌++◌, List, [], ◌∷◌}

-- The texts of some things in a row, each by its number, from this one on.
abbrev pub numbered : {X : Type 0} → (ℕ → X → List ℕ) → ℕ → List X → List ℕ
numbered text i [] = []
numbered text i (x ∷ xs) = text i x ++ numbered text (suc i) xs
