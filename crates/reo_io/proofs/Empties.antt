-- Counts of pieces without a byte.
use Rattle.std.proofs.Common.{◌≡◌, ◌∙◌, ℕ, List, [], ◌∷◌, ◌++◌, ap, refl}
use Rattle.reo_io.specs.Given.{empties, empties_after}

-- the order of two pieces makes no difference
empties_after-swap : (count : ℕ) (a b : List ℕ) → empties_after (empties_after count a) b ≡ empties_after (empties_after count b) a
empties_after-swap count [] [] = refl
empties_after-swap count [] (y ∷ b) = refl
empties_after-swap count (x ∷ a) [] = refl
empties_after-swap count (x ∷ a) (y ∷ b) = refl

-- one more piece behind the others
pub empties-then : (files : List (List ℕ × List ℕ)) (name piece : List ℕ) → empties (files ++ (name, piece) ∷ []) ≡ empties_after (empties files) piece
empties-then [] name piece = refl
empties-then (file ∷ files) name piece = ap (λ (count : ℕ). empties_after count file.1) (empties-then files name piece) ∙ empties_after-swap (empties files) piece file.1
