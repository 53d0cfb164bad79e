-- Numbers of a list.
use Rattle.std.proofs.Common.{◌≡◌, ◌⊎◌, inl, inr, ℕ, zero, suc, ◌+◌, ◌<◌, Bool, true, false, ◌||◌, cond, List, [], ◌∷◌, ◌++◌, length, get_or, refl, ap, sym, ◌∙◌, subst, arith}
use Rattle.std.specs.Prelude.{filter}
use Rattle.std.specs.Bool.{◌==◌}
use Rattle.std.specs.List.{range_with_len}
use Rattle.std.proofs.lemmas.Bool.{or_cases, or_left, or_right, eqb-true, eq-eqb}
use Rattle.reo_side_tables.specs.Listing.{StandsIn}
use Rattle.reo_propagate.specs.Queues.{among}

pub among_at : (sides : List ℕ) (m : ℕ) → m < length sides → among sides (get_or sides m 0) ≡ true
among_at [] m lt = absurd (omega arith)
among_at (s ∷ ss) zero lt = or_left (s == s) (among ss s) (eq-eqb s s refl)
among_at (s ∷ ss) (suc m) lt = or_right (s == get_or ss m 0) (among ss (get_or ss m 0)) (among_at ss m (omega arith))

pub among_stands : (sides : List ℕ) (k : ℕ) → among sides k ≡ true → StandsIn sides k
among_stands [] k h = absurd cc
among_stands (s ∷ ss) k h = elim (or_cases (s == k) (among ss k) h) [
  | inl e ↦ (zero, omega arith, eqb-true s k e)
  | inr e ↦ let l = among_stands ss k e in (suc l.0, omega (arith, l.1), l.2)
]

pub among_more : (xs : List ℕ) (x k : ℕ) → among (xs ++ x ∷ []) k ≡ (among xs k || (x == k))
among_more [] x k = or_none (x == k)
  where
    or_none : (b : Bool) → (b || false) ≡ (false || b)
    or_none true = refl
    or_none false = refl
among_more (y ∷ ys) x k = ap (λ (b : Bool). (y == k) || b) (among_more ys x k) ∙ or_moves (y == k) (among ys k) (x == k)
  where
    or_moves : (a b c : Bool) → (a || (b || c)) ≡ ((a || b) || c)
    or_moves true b c = refl
    or_moves false b c = refl

pub among_range : (a n s : ℕ) → s < n → among (range_with_len a n) (a + s) ≡ true
among_range a zero s lt = absurd (omega arith)
among_range a (suc n) zero lt = or_left (a == (a + zero)) (among (range_with_len (a + 1) n) (a + zero)) (eq-eqb a (a + zero) (omega arith))
among_range a (suc n) (suc s) lt =
    let shift : (a + 1) + s ≡ a + suc s = omega arith in
    or_right (a == (a + suc s)) (among (range_with_len (a + 1) n) (a + suc s)) (subst (λ (k : ℕ). among (range_with_len (a + 1) n) k ≡ true) shift (among_range (a + 1) n s (omega arith)))

-- What a filter keeps.
filter_for : (f : ℕ → Bool) (x : ℕ) (xs : List ℕ) (s : ℕ) (t : Bool) → f x ≡ t → ((among (filter f xs) s ≡ true) → (f s ≡ true) × (among xs s ≡ true)) → among (cond t (x ∷ filter f xs) (filter f xs)) s ≡ true → (f s ≡ true) × (among (x ∷ xs) s ≡ true)
filter_for f x xs s true is rest h = elim (or_cases (x == s) (among (filter f xs) s) h) [
  | inl here ↦ (subst (λ (k : ℕ). f k ≡ true) (eqb-true x s here) is, or_left (x == s) (among xs s) here)
  | inr there ↦ let r = rest there in (r.0, or_right (x == s) (among xs s) r.1)
]
filter_for f x xs s false is rest h = let r = rest h in (r.0, or_right (x == s) (among xs s) r.1)

pub among_filter : (f : ℕ → Bool) (xs : List ℕ) (s : ℕ) → among (filter f xs) s ≡ true → (f s ≡ true) × (among xs s ≡ true)
among_filter f [] s h = cc
among_filter f (x ∷ xs) s h = filter_for f x xs s (f x) refl (among_filter f xs s) h

into_for : (f : ℕ → Bool) (x : ℕ) (xs : List ℕ) (s : ℕ) (t : Bool) → f x ≡ t → f s ≡ true → (among xs s ≡ true → among (filter f xs) s ≡ true) → (x == s) ≡ true ⊎ (among xs s ≡ true) → among (cond t (x ∷ filter f xs) (filter f xs)) s ≡ true
into_for f x xs s true is good rest (inl here) = or_left (x == s) (among (filter f xs) s) here
into_for f x xs s true is good rest (inr there) = or_right (x == s) (among (filter f xs) s) (rest there)
into_for f x xs s false is good rest (inl here) = let wrong : false ≡ true = sym is ∙ ap f (eqb-true x s here) ∙ good in cc
into_for f x xs s false is good rest (inr there) = rest there

pub into_filter : (f : ℕ → Bool) (xs : List ℕ) (s : ℕ) → f s ≡ true → among xs s ≡ true → among (filter f xs) s ≡ true
into_filter f [] s good h = h
into_filter f (x ∷ xs) s good h = into_for f x xs s (f x) refl good (into_filter f xs s good) (or_cases (x == s) (among xs s) h)
