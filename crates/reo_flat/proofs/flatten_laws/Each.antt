-- What holds of each item of a list.
use Rattle.std.proofs.Common.{arith, zero, suc, List, [], ◌∷◌, ◌++◌}
use Rattle.std.specs.List.{All, AllByRecursion}

pub by_recursion : {X : Type 0} (P : X → Type 0) (xs : List X) → All P xs → AllByRecursion P xs
by_recursion P [] all = tt
by_recursion P (x ∷ xs) all = (all 0 x (omega arith), by_recursion P xs (λ k d below. all (suc k) d (omega arith)))

pub each_of : {X : Type 0} (P : X → Type 0) (xs : List X) → AllByRecursion P xs → All P xs
each_of P [] all k d below = absurd (omega arith)
each_of P (x ∷ xs) all zero d below = all.0
each_of P (x ∷ xs) all (suc k) d below = each_of P xs all.1 k d (omega arith)

-- Of two lists together.
pub both : {X : Type 0} (P : X → Type 0) (xs ys : List X) → AllByRecursion P xs → AllByRecursion P ys → AllByRecursion P (xs ++ ys)
both P [] ys a b = b
both P (x ∷ xs) ys a b = (a.0, both P xs ys a.1 b)

-- And what follows from it.
pub all_to : {X : Type 0} (P Q : X → Type 0) → ((x : X) → P x → Q x) → (xs : List X) → AllByRecursion P xs → AllByRecursion Q xs
all_to P Q f [] all = tt
all_to P Q f (x ∷ xs) all = (f x all.0, all_to P Q f xs all.1)
