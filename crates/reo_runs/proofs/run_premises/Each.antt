-- What holds of each item of a list.
use Rattle.std.proofs.Common.{arith, zero, suc, List, [], ◌∷◌, ◌++◌}
use Rattle.std.specs.List.{All, AllByRecursion}

module _ {X : Type 0} (P : X → Type 0) where
  pub each_of : (xs : List X) → AllByRecursion P xs → All P xs
  each_of [] all k d below = absurd (omega arith)
  each_of (x ∷ xs) all zero d below = all.0
  each_of (x ∷ xs) all (suc k) d below = each_of xs all.1 k d (omega arith)

  -- Of two lists together.
  pub both : (xs ys : List X) → AllByRecursion P xs → AllByRecursion P ys → AllByRecursion P (xs ++ ys)
  both [] ys a b = b
  both (x ∷ xs) ys a b = (a.0, both xs ys a.1 b)

  -- And of each of two lists.
  pub left : (xs ys : List X) → AllByRecursion P (xs ++ ys) → AllByRecursion P xs
  left [] ys all = tt
  left (x ∷ xs) ys all = (all.0, left xs ys all.1)

  pub right : (xs ys : List X) → AllByRecursion P (xs ++ ys) → AllByRecursion P ys
  right [] ys all = all
  right (x ∷ xs) ys all = right xs ys all.1
