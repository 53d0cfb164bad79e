-- A list of which one element changes.
use Rattle.std.proofs.Common.{◌≡◌, ℕ, zero, suc, List, [], ◌∷◌, get_or, set, ap, refl}
use Rattle.reo_net_base.specs.Step.{change_at}

module _ {X : Type 0} where
  -- A change at a place is a write there.
  pub change_is_set : (f : X → X) (xs : List X) (i : ℕ) (d : X) → change_at f xs i ≡ set xs i (f (get_or xs i d))
  change_is_set f [] i d = refl
  change_is_set f (x ∷ xs) zero d = refl
  change_is_set f (x ∷ xs) (suc i) d = ap (λ (ys : List X). x ∷ ys) (change_is_set f xs i d)

  -- A change that leaves the element leaves the list.
  pub change_none : (f : X → X) (xs : List X) (i : ℕ) (d : X) → f (get_or xs i d) ≡ get_or xs i d → change_at f xs i ≡ xs
  change_none f [] i d h = refl
  change_none f (x ∷ xs) zero d h = ap (λ (y : X). y ∷ xs) h
  change_none f (x ∷ xs) (suc i) d h = ap (λ (ys : List X). x ∷ ys) (change_none f xs i d h)
