-- Lists without repetition.
use Rattle.std.proofs.Common.{◌≡◌, ◌≢◌, ◌↔◌, inl, inr, ℕ, zero, suc, ◌+◌, ◌<◌, ◌≤◌, ◌⊎◌, List, [], ◌∷◌, length, get_or, refl, ap, sym, ◌∙◌, arith, add-one}
use Rattle.std.specs.Prelude.{Contains}
use Rattle.std.specs.List.{remove, AllPairs}
use Rattle.std.specs.List.Sorted.{IsStrictlyIncreasing}
use Rattle.std.proofs.lemmas.Bool.{cases_eq, cases_lt}
use Rattle.std.proofs.lemmas.List.{get_or_default}
use Rattle.std.proofs.lemmas.List.Edits.{length-remove, get_or-remove_below, get_or-remove_above}
use Rattle.std.proofs.lemmas.List.Kept.{AllPairs-from_increasing}

-- No element stands twice in a list.
abbrev pub AreOnce : {A : Type 0} → List A → Type 0
AreOnce {A} xs = (m n : ℕ) (d : A) → m < n → n < length xs → get_or xs m d ≢ get_or xs n d

module _ {B : Type 0} where
  -- What is in a list and is not the element of a place is still there without that place.
  still_there : (ys : List B) (p : ℕ) → p < length ys → (y : B) (q : ℕ) → q < length ys → get_or ys q y ≡ y → get_or ys p y ≢ y → Contains (remove ys p) y
  still_there ys p p_in y q q_in is apart =
      let count = length-remove ys p p_in in
      elim (cases_lt q p) [
        | inl lt ↦ (q, omega (arith, count, lt), get_or-remove_below ys p y q lt p_in ∙ is)
        | inr le ↦ elim (cases_eq p q) [
          | inl same ↦ absurd (apart (ap (λ (k : ℕ). get_or ys k y) same ∙ is))
          | inr other ↦ above q q_in is (omega (arith, le, other)) count
        ]
      ]
    where
      above : (q : ℕ) → q < length ys → get_or ys q y ≡ y → p < q → length (remove ys p) + 1 ≡ length ys → Contains (remove ys p) y
      above zero q_in is lt count = absurd (omega arith)
      above (suc q) q_in is lt count = (q, omega (arith, count), get_or-remove_above ys p y q (omega arith) p_in ∙ ap (λ (k : ℕ). get_or ys k y) (add-one q) ∙ is)

module _ {A B : Type 0} where
  -- A list whose elements go to different elements of another is no longer.
  pub fewer : (xs : List A) (ys : List B) (to : A → B) → AreOnce xs → ((x z : A) → Contains xs x → Contains xs z → to x ≡ to z → x ≡ z)
      → ((x : A) → Contains xs x → Contains ys (to x)) → length xs ≤ length ys
  fewer [] ys to once apart within = omega arith
  fewer (x ∷ xs) ys to once apart within =
      let here : Contains (x ∷ xs) x = (zero, omega arith, refl) in
      let has : Contains ys (to x) = within x here in
      let p : ℕ = has.0 in
      let later : (y : A) → Contains xs y → Contains (x ∷ xs) y = λ y h. (suc h.0, omega (arith, h.1), h.2) in
      let rest : length xs ≤ length (remove ys p) =
      fewer xs (remove ys p) to (λ m n d lt n_in. once (suc m) (suc n) d (omega arith) (omega arith)) (λ y z y_in z_in. apart y z (later y y_in) (later z z_in)) (λ y y_in.
      let there : Contains ys (to y) = within y (later y y_in) in
      still_there ys p has.1 (to y) there.0 there.1 there.2 (λ same.
      let equal : to x ≡ to y = sym has.2 ∙ get_or_default ys p (to x) (to y) has.1 ∙ same in
      once zero (suc y_in.0) y (omega arith) (omega (arith, y_in.1)) (apart x y here (later y y_in) equal ∙ sym y_in.2))) in
      omega (arith, rest, length-remove ys p has.1)

-- What is in a list behind its least element is above that.
above_head : (x : ℕ) (xs : List ℕ) → AllPairs (λ a b. a < b) (x ∷ xs) → (y : ℕ) → Contains xs y → x < y
above_head x xs up y h = rw h.2 at (up zero (suc h.0) y (omega arith) (omega (arith, h.1)))

tail_up : (x : ℕ) (xs : List ℕ) → AllPairs (λ a b. a < b) (x ∷ xs) → AllPairs (λ a b. a < b) xs
tail_up x xs up i j d lt within = up (suc i) (suc j) d (omega arith) (omega arith)

-- An element of a list is its head or behind it.
head_or : (x : ℕ) (xs : List ℕ) (y : ℕ) → Contains (x ∷ xs) y → (x ≡ y) ⊎ Contains xs y
head_or x xs y (zero, lt, is) = inl is
head_or x xs y (suc k, lt, is) = inr (k, omega arith, is)

one_list : (xs ys : List ℕ) → AllPairs (λ a b. a < b) xs → AllPairs (λ a b. a < b) ys → ((x : ℕ) → Contains xs x ↔ Contains ys x) → xs ≡ ys
one_list [] [] up down same = refl
one_list [] (y ∷ ys) up down same = let h = (same y).1 (zero, omega arith, refl) in absurd (omega (arith, h.1))
one_list (x ∷ xs) [] up down same = let h = (same x).0 (zero, omega arith, refl) in absurd (omega (arith, h.1))
one_list (x ∷ xs) (y ∷ ys) up down same =
    let head : x ≡ y = elim (head_or y ys x ((same x).0 (zero, omega arith, refl))) [
      | inl is ↦ sym is
      | inr behind ↦ elim (head_or x xs y ((same y).1 (zero, omega arith, refl))) [
        | inl is ↦ is
        | inr too ↦ absurd (omega (arith, above_head y ys down x behind, above_head x xs up y too))
      ]
    ] in
    let rest : xs ≡ ys = one_list xs ys (tail_up x xs up) (tail_up y ys down) (λ z. (
      λ h. elim (head_or y ys z ((same z).0 (suc h.0, omega (arith, h.1), h.2))) [
        | inl is ↦ absurd (omega (arith, above_head x xs up z h, head, is))
        | inr there ↦ there
      ],
      λ h. elim (head_or x xs z ((same z).1 (suc h.0, omega (arith, h.1), h.2))) [
        | inl is ↦ absurd (omega (arith, above_head y ys down z h, head, is))
        | inr there ↦ there
      ],
    )) in
    (λ i. head i ∷ rest i)

-- Two increasing lists with the same elements are one.
pub same_increasing : (xs ys : List ℕ) → IsStrictlyIncreasing xs → IsStrictlyIncreasing ys → ((x : ℕ) → Contains xs x ↔ Contains ys x) → xs ≡ ys
same_increasing xs ys up down same = one_list xs ys (AllPairs-from_increasing xs up) (AllPairs-from_increasing ys down) same
