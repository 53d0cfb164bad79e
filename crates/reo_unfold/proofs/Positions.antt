-- What a search by name finds in a front of a list.
use Rattle.std.proofs.Common.{arith, ◌≡◌, ◌∙◌, ℕ, zero, suc, ◌+◌, ◌<◌, ◌≤◌, inl, inr, List, [], ◌∷◌, length, take, Bool, true, false, not, cond, Some, None, find, position, refl, ap}
use Rattle.std.specs.Prelude.{slice_get}
use Rattle.std.specs.List.{prefix_len}
use Rattle.std.proofs.lemmas.Bool.{ltb-true, ltb-false}
use Rattle.std.proofs.lemmas.Bool.Decides.{leb_tells}
use Rattle.reo_unfold.proofs.Sequences.{at_place, at_none}

module _ {X : Type 0} (p : X → Bool) where
  -- How many there are before the first that passes.
  abbrev pub before_first : List X → ℕ
  before_first xs = prefix_len (λ x. not (p x)) xs

  later : (x : X) (xs : List X) (r : ℕ) → slice_get xs r ≡ slice_get (x ∷ xs) (1 + r)
  later x xs r =
      let more : suc r ≡ 1 + r = omega arith in
      ap (slice_get (x ∷ xs)) more

  in-front : (b : Bool) (x : X) (xs : List X) (k r : ℕ) → (r < k → find p (take k xs) ≡ slice_get xs r) → cond (not b) (1 + r) 0 < suc k → cond b (Some x) (find p (take k xs)) ≡ slice_get (x ∷ xs) (cond (not b) (1 + r) 0)
  in-front true x xs k r more h = refl
  in-front false x xs k r more h = more (omega arith) ∙ later x xs r

  -- The first that passes, where it is within the front.
  pub find_in-front : (xs : List X) (k : ℕ) → before_first xs < k → find p (take k xs) ≡ slice_get xs (before_first xs)
  find_in-front [] zero h = absurd (omega arith)
  find_in-front [] (suc k) h = refl
  find_in-front (x ∷ xs) zero h = absurd (omega arith)
  find_in-front (x ∷ xs) (suc k) h = in-front (p x) x xs k (before_first xs) (find_in-front xs k) h

  behind : (b : Bool) (x : X) (xs : List X) (k r : ℕ) → (k ≤ r → find p (take k xs) ≡ None) → suc k ≤ cond (not b) (1 + r) 0 → cond b (Some x) (find p (take k xs)) ≡ None
  behind true x xs k r more h = absurd (omega arith)
  behind false x xs k r more h = more (omega arith)

  -- None, where it is behind the front.
  pub find_behind : (xs : List X) (k : ℕ) → k ≤ before_first xs → find p (take k xs) ≡ None
  find_behind [] zero h = refl
  find_behind [] (suc k) h = refl
  find_behind (x ∷ xs) zero h = refl
  find_behind (x ∷ xs) (suc k) h = behind (p x) x xs k (before_first xs) (find_behind xs k) h

  -- The place that a search answers.
  pub place_is : (xs : List X) (n : ℕ) → position p xs ≡ Some n → before_first xs ≡ n
  place_is xs n is = at_place _ _ n is

  pub place_none : (xs : List X) → position p xs ≡ None → length xs ≤ before_first xs
  place_none xs is = ltb-false _ _ (at_none _ _ is)

  past : (xs : List X) (n : ℕ) → length xs ≤ n → slice_get xs n ≡ None
  past [] n h = refl
  past (x ∷ xs) zero h = absurd (omega arith)
  past (x ∷ xs) (suc n) h = past xs n (omega arith)

  front_or_not : (xs : List X) (k n : ℕ) → before_first xs ≡ n → (slice_get xs n ≡ None) → find p (take k xs) ≡ None
  front_or_not xs k n is none =
      elim (leb_tells (suc (before_first xs)) k) [
        | inl w ↦ find_in-front xs k w.1 ∙ ap (slice_get xs) is ∙ none
        | inr w ↦ find_behind xs k (omega arith)
      ]

  pub found_before : (xs : List X) (k n : ℕ) → position p xs ≡ Some n → n < k → find p (take k xs) ≡ slice_get xs n
  found_before xs k n is h =
      let at = place_is xs n is in
      find_in-front xs k (omega arith) ∙ ap (slice_get xs) at

  pub found_late : (xs : List X) (k n : ℕ) → position p xs ≡ Some n → k ≤ n → find p (take k xs) ≡ None
  found_late xs k n is h =
      let at = place_is xs n is in
      find_behind xs k (omega arith)

  pub found_none : (xs : List X) (k : ℕ) → position p xs ≡ None → find p (take k xs) ≡ None
  found_none xs k is = front_or_not xs k (before_first xs) refl (past xs (before_first xs) (place_none xs is))

  all-step : (b : Bool) (x : X) (xs : List X) (r : ℕ) → find p xs ≡ slice_get xs r → cond b (Some x) (find p xs) ≡ slice_get (x ∷ xs) (cond (not b) (1 + r) 0)
  all-step true x xs r more = refl
  all-step false x xs r more = more ∙ later x xs r

  -- The same in a whole list.
  find_first : (xs : List X) → find p xs ≡ slice_get xs (before_first xs)
  find_first [] = refl
  find_first (x ∷ xs) = all-step (p x) x xs (before_first xs) (find_first xs)

  pub found_at : (xs : List X) (n : ℕ) → position p xs ≡ Some n → find p xs ≡ slice_get xs n
  found_at xs n is = find_first xs ∙ ap (slice_get xs) (place_is xs n is)

  pub found_nowhere : (xs : List X) → position p xs ≡ None → find p xs ≡ None
  found_nowhere xs is = find_first xs ∙ past xs (before_first xs) (place_none xs is)

  -- A place that was found is one of the list.
  within-step : (t : Bool) (a m n : ℕ) → (t ≡ true → a < m) → cond t (Some a) None ≡ Some n → n < m
  within-step true a m n small is =
      let same : a ≡ n = cc in
      let below = small refl in
      omega arith
  within-step false a m n small is = absurd (cc)

  pub found_within : (xs : List X) (n : ℕ) → position p xs ≡ Some n → n < length xs
  found_within xs n is = within-step _ _ (length xs) n (ltb-true _ _) is
