-- Lists that are strictly in some order.
use Rattle.std.proofs.Common.{◌≡◌, inl, inr, ◌⊎◌, ℕ, zero, suc, ◌<◌, ◌≤◌, List, [], ◌∷◌, length, get_or, refl, sym, ap, ◌∙◌, subst, arith}
use Rattle.std.specs.Prelude.{Contains}
use Rattle.reo_values.proofs.Sequences.{any_default}

pub here : {X : Type 0} (x : X) (xs : List X) → Contains (x ∷ xs) x
here x xs = (0, omega arith, refl)

pub there : {X : Type 0} (x z : X) (xs : List X) → Contains xs z → Contains (x ∷ xs) z
there x z xs (k, lt, is) = (suc k, omega (arith, lt), is)

pub split : {X : Type 0} (x z : X) (xs : List X) → Contains (x ∷ xs) z → (z ≡ x) ⊎ Contains xs z
split x z xs (zero, lt, is) = inl (sym is)
split x z xs (suc k, lt, is) = inr (k, omega (arith, lt), is)

pub none_in : {X : Type 0} (z : X) → Contains [] z → ⊥
none_in z (k, lt, is) = omega (arith, lt)

module _ {X : Type 0} (R : X → X → Type 0) (d : X) where
  abbrev pub AreInOrder : List X → Type 0
  AreInOrder xs = (m n : ℕ) → m < n → n < length xs → R (get_or xs m d) (get_or xs n d)

  abbrev pub AreAmong : List X → List X → Type 0
  AreAmong xs ys = (z : X) → Contains xs z → Contains ys z

  behind : (x : X) (xs : List X) → AreInOrder (x ∷ xs) → AreInOrder xs
  behind x xs order m n lt n_in = order (suc m) (suc n) (omega (arith, lt)) (omega (arith, n_in))

  first : (x : X) (xs : List X) → AreInOrder (x ∷ xs) → (z : X) → Contains xs z → R x z
  first x xs order z (k, lt, is) = subst (R x) (any_default xs k d z lt ∙ is) (order 0 (suc k) (omega arith) (omega (arith, lt)))

  module _ (never : (x : X) → R x x → ⊥) (on : (x y z : X) → R x y → R y z → R x z) where
    not_first : (x : X) (xs : List X) → AreInOrder (x ∷ xs) → (z : X) → Contains xs z → z ≡ x → ⊥
    not_first x xs order z in_it is = never x (subst (R x) is (first x xs order z in_it))

    one_first : (x : X) (xs : List X) (y : X) (ys : List X) → AreInOrder (x ∷ xs) → AreInOrder (y ∷ ys) → Contains (y ∷ ys) x → Contains (x ∷ xs) y → x ≡ y
    one_first x xs y ys order other x_in y_in = elim (split y x ys x_in) [
      | inl is ↦ is
      | inr x_later ↦ elim (split x y xs y_in) [
        | inl is ↦ sym is
        | inr y_later ↦ absurd (never x (on x y x (first x xs order y y_later) (first y ys other x x_later)))
      ]
    ]

    later : (x : X) (xs : List X) (y : X) (ys : List X) → x ≡ y → AreInOrder (x ∷ xs) → AreAmong (x ∷ xs) (y ∷ ys) → AreAmong xs ys
    later x xs y ys same order among z in_it = elim (split y z ys (among z (there x z xs in_it))) [
      | inl is ↦ absurd (not_first x xs order z in_it (is ∙ sym same))
      | inr it ↦ it
    ]

    -- Lists in order with the same elements are the same.
    pub same_lists : (xs ys : List X) → AreInOrder xs → AreInOrder ys → AreAmong xs ys → AreAmong ys xs → xs ≡ ys
    same_lists [] [] order other among back = refl
    same_lists [] (y ∷ ys) order other among back = absurd (none_in y (back y (here y ys)))
    same_lists (x ∷ xs) [] order other among back = absurd (none_in x (among x (here x xs)))
    same_lists (x ∷ xs) (y ∷ ys) order other among back =
        let same : x ≡ y = one_first x xs y ys order other (among x (here x xs)) (back y (here y ys)) in
        let rest : xs ≡ ys =
        same_lists xs ys (behind x xs order) (behind y ys other) (later x xs y ys same order among) (later y ys x xs (sym same) other back) in
        ap (λ (z : X). z ∷ xs) same ∙ ap (λ (zs : List X). y ∷ zs) rest

    -- What is not the first of the others is among the rest of them.
    past : (x : X) (xs : List X) (y : X) (ys : List X) → AreInOrder (x ∷ xs) → AreInOrder (y ∷ ys) → Contains ys x → AreAmong (x ∷ xs) (y ∷ ys) → AreAmong (x ∷ xs) ys
    past x xs y ys order other x_later among z in_it = elim (split y z ys (among z in_it)) [
      | inr it ↦ it
      | inl is ↦ elim (split x z xs in_it) [
        | inl same ↦ absurd (not_first y ys other x x_later (sym same ∙ is))
        | inr z_later ↦ absurd (never x (on x y x (subst (R x) is (first x xs order z z_later)) (first y ys other x x_later)))
      ]
    ]

    -- A list in order that is among another is no longer.
    pub no_longer : (ys xs : List X) → AreInOrder xs → AreInOrder ys → AreAmong xs ys → length xs ≤ length ys
    no_longer ys [] order other among = omega arith
    no_longer [] (x ∷ xs) order other among = absurd (none_in x (among x (here x xs)))
    no_longer (y ∷ ys) (x ∷ xs) order other among = elim (split y x ys (among x (here x xs))) [
      | inl same ↦ let fewer = no_longer ys xs (behind x xs order) (behind y ys other) (later x xs y ys same order among) in omega (arith, fewer)
      | inr x_later ↦ let fewer = no_longer ys (x ∷ xs) order (behind y ys other) (past x xs y ys order other x_later among) in omega (arith, fewer)
    ]
