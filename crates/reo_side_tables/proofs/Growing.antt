-- Lists that grow.
use Rattle.std.proofs.Common.{◌≡◌, ◌≢◌, inl, inr, ℕ, ◌+◌, ◌<◌, List, [], ◌∷◌, ◌++◌, length, get_or, sym, ◌∙◌, subst, arith, length-append}
use Rattle.std.proofs.lemmas.Bool.{cases_eq}
use Rattle.std.proofs.Math.Seq.{get_or-append_seam}
use Rattle.std.proofs.lemmas.List.{get_or_append_left}
use Rattle.reo_side_tables.specs.Listing.{StandsIn, Lists, AreOnce, AreEmpty, IsAdded}

pub stands_old : (xs : List ℕ) (x k : ℕ) → StandsIn xs k → StandsIn (xs ++ x ∷ []) k
stands_old xs x k (m, lt, is) = (m, omega (arith, length-append xs (x ∷ [])), get_or_append_left xs (x ∷ []) 0 m lt ∙ is)

pub stands_new : (xs : List ℕ) (x : ℕ) → StandsIn (xs ++ x ∷ []) x
stands_new xs x = (length xs, omega (arith, length-append xs (x ∷ [])), get_or-append_seam xs x [] 0)

-- What holds of all elements and of one more holds of all.
pub all_more : (holds : ℕ → Type 0) (xs : List ℕ) (x : ℕ) → ((m : ℕ) → m < length xs → holds (get_or xs m 0)) → holds x → (m : ℕ) → m < length (xs ++ x ∷ []) → holds (get_or (xs ++ x ∷ []) m 0)
all_more holds xs x all new m lt =
    let total = length-append xs (x ∷ []) in
    elim (cases_eq m (length xs)) [
      | inl last ↦ subst holds (sym (rw last (get_or-append_seam xs x [] 0))) new
      | inr other ↦ let before : m < length xs = omega arith in subst holds (sym (get_or_append_left xs (x ∷ []) 0 m before)) (all m before)
    ]

-- A number that does not stand in a list comes at its end.
pub once_more : (xs : List ℕ) (x : ℕ) → ((m : ℕ) → m < length xs → get_or xs m 0 ≢ x) → AreOnce xs → AreOnce (xs ++ x ∷ [])
once_more xs x new once m n lt n_in =
    let total = length-append xs (x ∷ []) in
    let m_in : m < length xs = omega arith in
    let here = get_or_append_left xs (x ∷ []) 0 m m_in in
    elim (cases_eq n (length xs)) [
      | inl last ↦ λ same. new m m_in (sym here ∙ same ∙ rw last (get_or-append_seam xs x [] 0))
      | inr other ↦ let before : n < length xs = omega arith in λ same. once m n lt before (sym here ∙ same ∙ get_or_append_left xs (x ∷ []) 0 n before)
    ]

-- A list of what holds below a bound, with one number more.
pub record ListsBelow (holds : ℕ → Type 0) (n : ℕ) (list : List ℕ) : Type 0 where
  pub sound : (m : ℕ) → m < length list → holds (get_or list m 0)
  pub whole : (k : ℕ) → k < n → holds k → StandsIn list k

-- Each list has what falls to it of the numbers below a bound.
pub record AreBelow (falls : ℕ → ℕ → Type 0) (count n : ℕ) (lists : List (List ℕ)) : Type 0 where
  pub one_each : length lists ≡ count
  pub each : (k : ℕ) → ListsBelow (falls k) n (get_or lists k [])

pub below_none : (falls : ℕ → ℕ → Type 0) (count : ℕ) (lists : List (List ℕ)) → AreEmpty count lists → AreBelow falls count 0 lists
below_none falls count lists are = record {
  one_each = are.one_each;
  each = λ k. subst (ListsBelow (falls k) 0) (sym (are.empty k)) (record { sound = λ m lt. absurd (omega arith); whole = λ i lt h. absurd (omega arith) });
}

below_here : (holds : ℕ → Type 0) (n : ℕ) (xs : List ℕ) → ListsBelow holds n xs → holds n → ListsBelow holds (n + 1) (xs ++ n ∷ [])
below_here holds n xs l new = record {
  sound = all_more holds xs n l.sound new;
  whole = λ k lt h. elim (cases_eq k n) [
    | inl is ↦ subst (StandsIn (xs ++ n ∷ [])) (sym is) (stands_new xs n)
    | inr other ↦ stands_old xs n k (l.whole k (omega arith) h)
  ];
}

below_other : (holds : ℕ → Type 0) (n : ℕ) (xs : List ℕ) → ListsBelow holds n xs → (holds n → ⊥) → ListsBelow holds (n + 1) xs
below_other holds n xs l not_here = record {
  sound = l.sound;
  whole = λ k lt h. elim (cases_eq k n) [
    | inl is ↦ absurd (not_here (subst holds is h))
    | inr other ↦ l.whole k (omega arith) h
  ];
}

-- One number more, which falls to one list alone.
pub below_more : (falls : ℕ → ℕ → Type 0) (count n place : ℕ) (old new : List (List ℕ)) → AreBelow falls count n old → IsAdded old new place n → falls place n
    → ((k : ℕ) → falls k n → k ≡ place) → AreBelow falls count (n + 1) new
below_more falls count n place old new are added here only = record {
  one_each = added.one_each ∙ are.one_each;
  each = λ k. elim (cases_eq k place) [
    | inl is ↦ subst (λ (s : ℕ). ListsBelow (falls s) (n + 1) (get_or new s [])) (sym is)
        (subst (ListsBelow (falls place) (n + 1)) (sym added.here) (below_here (falls place) n (get_or old place []) (are.each place) here))
    | inr other ↦ subst (ListsBelow (falls k) (n + 1)) (sym (added.other k other)) (below_other (falls k) n (get_or old k []) (are.each k) (λ h. other (only k h)))
  ];
}

-- One number more, which falls to none.
pub below_skip : (falls : ℕ → ℕ → Type 0) (count n : ℕ) (lists : List (List ℕ)) → AreBelow falls count n lists → ((k : ℕ) → falls k n → ⊥) → AreBelow falls count (n + 1) lists
below_skip falls count n lists are none = record { one_each = are.one_each; each = λ k. below_other (falls k) n (get_or lists k []) (are.each k) (none k) }

-- With a bound for all that falls to a list, it has them all.
pub below_whole : (holds : ℕ → Type 0) (n : ℕ) (list : List ℕ) → ((k : ℕ) → holds k → k < n) → ListsBelow holds n list → Lists holds list
below_whole holds n list bound l = record { sound = l.sound; whole = λ k h. l.whole k (bound k h) h }
