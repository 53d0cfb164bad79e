-- Lists of names in which none stands twice.
use Rattle.std.proofs.Common.{arith, ◌≡◌, ℕ, ◌<◌, zero, suc, List, [], ◌∷◌, ◌++◌, length, get_or, map, inl, inr, refl, sym, ap, subst}
use Rattle.reo_values.specs.Valid.{AreDistinct}
use Rattle.reo_flat.proofs.flatten_laws.Within.{In, in_either}

abbrev pub Once : List (List ℕ) → Type 0
Once [] = Unit {0}
Once (x ∷ xs) = (In xs x → ⊥) × Once xs

pub once_append : (xs ys : List (List ℕ)) → Once xs → Once ys → ((n : List ℕ) → In xs n → In ys n → ⊥) → Once (xs ++ ys)
once_append [] ys a b apart = b
once_append (x ∷ xs) ys a b apart = (
  (λ there. elim (in_either xs ys x there) [ inl l ↦ a.0 l | inr r ↦ apart x (inl refl) r ]),
  once_append xs ys a.1 b (λ n l r. apart n (inr l) r),
)

-- What stands in a list that each text is put before.
pub in_mapped : (f : List ℕ → List ℕ) (xs : List (List ℕ)) (n : List ℕ) → In (map f xs) n → (z : List ℕ) × In xs z × (n ≡ f z)
in_mapped f [] n there = absurd there
in_mapped f (x ∷ xs) n (inl is) = (x, inl refl, is)
in_mapped f (x ∷ xs) n (inr rest) = let at = in_mapped f xs n rest in (at.0, inr at.1, at.2)

pub once_mapped : (f : List ℕ → List ℕ) → ((a b : List ℕ) → f a ≡ f b → a ≡ b) → (xs : List (List ℕ)) → Once xs → Once (map f xs)
once_mapped f one [] a = tt
once_mapped f one (x ∷ xs) a = (
  (λ there. let at = in_mapped f xs (f x) there in a.0 (subst (In xs) (sym (one x at.0 at.2)) at.1)),
  once_mapped f one xs a.1,
)

in_at : (xs : List (List ℕ)) (i : ℕ) → i < length xs → In xs (get_or xs i [])
in_at [] i below = absurd (omega arith)
in_at (x ∷ xs) zero below = inl refl
in_at (x ∷ xs) (suc i) below = inr (in_at xs i (omega arith))

-- By places.
pub distinct : (xs : List (List ℕ)) → Once xs → AreDistinct xs
distinct [] a i j hi hj e = absurd (omega arith)
distinct (x ∷ xs) a zero zero hi hj e = refl
distinct (x ∷ xs) a zero (suc j) hi hj e = absurd (a.0 (subst (In xs) (sym e) (in_at xs j (omega arith))))
distinct (x ∷ xs) a (suc i) zero hi hj e = absurd (a.0 (subst (In xs) e (in_at xs i (omega arith))))
distinct (x ∷ xs) a (suc i) (suc j) hi hj e = ap suc (distinct xs a.1 i j (omega arith) (omega arith) e)
