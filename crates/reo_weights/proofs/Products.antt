-- Products of the numbers of a list.
use Rattle.std.proofs.Common.{◌≡◌, ℕ, ◌*◌, List, [], ◌∷◌, ◌++◌, ap, arith}
use Rattle.reo_weights.specs.Weights.{product_of}

-- The product with one number more.
pub product_push : (ns : List ℕ) (n : ℕ) → product_of (ns ++ n ∷ []) ≡ product_of ns * n
product_push [] n = omega arith
product_push (m ∷ ns) n = omega (arith, ap (λ (k : ℕ). m * k) (product_push ns n))
