-- Lists of exactly those of which something holds.
use Rattle.std.proofs.Common.{◌≡◌, ◌⊎◌, inl, inr, ◌↔◌, ℕ, zero, suc, ◌<◌, ◌≤◌, List, [], ◌∷◌, ◌++◌, Bool, true, false, length, refl, ap, sym, ◌∙◌, subst, arith, below_more}
use Rattle.std.specs.Prelude.{Contains}
use Rattle.std.specs.List.{filter}
use Rattle.std.proofs.lemmas.Bool.{cases_Bool}
use Rattle.std.proofs.lemmas.List.{get_or_default}
use Rattle.std.proofs.lemmas.List.Elements.{Contains-append_left, Contains-append_right, Contains-append_cases}
use Rattle.reo_weights.proofs.ListLemmas.{AreOnce}
use Rattle.reo_weights.proofs.Decisions.{IsDecided, is_so, so_true, true_so}

module _ {A : Type 0} where
  -- The head of a list is in it, and so is what is behind it.
  pub at_head : (x : A) (xs : List A) → Contains (x ∷ xs) x
  at_head x xs = (zero, omega arith, refl)

  pub behind_head : (x : A) (xs : List A) (y : A) → Contains xs y → Contains (x ∷ xs) y
  behind_head x xs y h = (suc h.0, omega (arith, h.1), h.2)

  -- An element of a list is its head or behind it.
  pub head_or_behind : (x : A) (xs : List A) (y : A) → Contains (x ∷ xs) y → (x ≡ y) ⊎ Contains xs y
  head_or_behind x xs y (zero, lt, is) = inl is
  head_or_behind x xs y (suc k, lt, is) = inr (k, omega arith, is)

  -- Nothing is in the empty list.
  pub not_in_none : (y : A) → Contains [] y → ⊥
  not_in_none y h = omega (arith, h.1)

  module _ (test : A → Bool) where
    -- What is picked of a list is what passes the test.
    pub in_filter : (xs : List A) (y : A) → Contains (filter test xs) y ↔ (Contains xs y × (test y ≡ true))
    in_filter [] y = (λ h. absurd (not_in_none y h), λ h. h.0)
    in_filter (x ∷ xs) y = elim (cases_Bool (test x)) [
      | inl is ↦ rw is (
        λ h. elim (head_or_behind x (filter test xs) y h) [
          | inl same ↦ (subst (λ (z : A). Contains (x ∷ xs) z) same (at_head x xs), ap test (sym same) ∙ is)
          | inr behind ↦ let it = (in_filter xs y).0 behind in (behind_head x xs y it.0, it.1)
        ],
        λ h. elim (head_or_behind x xs y h.0) [
          | inl same ↦ subst (λ (z : A). Contains (x ∷ filter test xs) z) same (at_head x (filter test xs))
          | inr behind ↦ behind_head x (filter test xs) y ((in_filter xs y).1 (behind, h.1))
        ],
      )
      | inr not_it ↦ rw not_it (
        λ h. let it = (in_filter xs y).0 h in (behind_head x xs y it.0, it.1),
        λ h. elim (head_or_behind x xs y h.0) [
          | inl same ↦ let wrong : false ≡ true = sym not_it ∙ ap test same ∙ h.1 in absurd cc
          | inr behind ↦ (in_filter xs y).1 (behind, h.1)
        ],
      )
    ]

    filter_no_longer : (xs : List A) → length (filter test xs) ≤ length xs
    filter_no_longer [] = omega arith
    filter_no_longer (x ∷ xs) = elim (cases_Bool (test x)) [
      | inl is ↦ rw is (omega (arith, filter_no_longer xs))
      | inr not_it ↦ rw not_it (omega (arith, filter_no_longer xs))
    ]

    -- A list is shorter without what does not pass the test.
    pub filter_shorter : (xs : List A) (y : A) → Contains xs y → test y ≡ false → length (filter test xs) < length xs
    filter_shorter [] y h fails = absurd (not_in_none y h)
    filter_shorter (x ∷ xs) y h fails = elim (cases_Bool (test x)) [
      | inr not_it ↦ rw not_it (omega (arith, filter_no_longer xs))
      | inl is ↦ elim (head_or_behind x xs y h) [
        | inl same ↦ let wrong : true ≡ false = sym is ∙ ap test same ∙ fails in absurd cc
        | inr behind ↦ rw is (omega (arith, filter_shorter xs y behind fails))
      ]
    ]

  -- One new element at the head.
  once_more : (x : A) (xs : List A) → (Contains xs x → ⊥) → AreOnce xs → AreOnce (x ∷ xs)
  once_more x xs new once zero zero d lt n_in = absurd (omega arith)
  once_more x xs new once zero (suc n) d lt n_in = λ same. new (n, omega arith, get_or_default xs n x d (omega arith) ∙ sym same)
  once_more x xs new once (suc m) zero d lt n_in = absurd (omega arith)
  once_more x xs new once (suc m) (suc n) d lt n_in = once m n d (omega arith) (omega arith)

-- A list of exactly those of which something holds.
pub record HasList {A : Type 0} (holds : A → Type 0) : Type 0 where
  pub list : List A
  pub exact : (x : A) → Contains list x ↔ holds x

module _ {A : Type 0} where
  -- The same in other words.
  pub listed_same : (p q : A → Type 0) → ((x : A) → p x → q x) → ((x : A) → q x → p x) → HasList p → HasList q
  listed_same p q there back l = record { list = l.list; exact = λ x. (λ h. there x ((l.exact x).0 h), λ h. (l.exact x).1 (back x h)) }

  -- Where nothing is so the list is empty.
  pub listed_none : (p : A → Type 0) → ((x : A) → p x → ⊥) → HasList p
  listed_none p none = record { list = []; exact = λ x. (λ h. absurd (not_in_none x h), λ h. absurd (none x h)) }

  -- One element alone.
  pub listed_one : (x : A) → HasList (λ (y : A). x ≡ y)
  listed_one x = record {
    list = x ∷ [];
    exact = λ y. (
      λ h. elim (head_or_behind x [] y h) [ inl same ↦ same | inr behind ↦ absurd (not_in_none y behind) ],
      λ same. subst (λ (z : A). Contains (x ∷ []) z) same (at_head x []),
    );
  }

  -- Those of which the one or the other holds.
  pub listed_either : (p q : A → Type 0) → HasList p → HasList q → HasList (λ (x : A). p x ⊎ q x)
  listed_either p q a b = record {
    list = a.list ++ b.list;
    exact = λ x. (
      λ h. elim (Contains-append_cases a.list b.list x h) [ inl left ↦ inl ((a.exact x).0 left) | inr right ↦ inr ((b.exact x).0 right) ],
      λ h. elim h [ inl left ↦ Contains-append_left a.list b.list x ((a.exact x).1 left) | inr right ↦ Contains-append_right a.list b.list x ((b.exact x).1 right) ],
    );
  }

  -- Those of which something holds for a number below n.
  pub listed_below : (p : ℕ → A → Type 0) (n : ℕ) → ((k : ℕ) → k < n → HasList (p k)) → HasList (λ (x : A). (k : ℕ) × (k < n) × p k x)
  listed_below p zero each = listed_none (λ (x : A). (k : ℕ) × (k < zero) × p k x) (λ x h. omega (arith, h.1))
  listed_below p (suc n) each =
      let before : HasList (λ (x : A). (k : ℕ) × (k < n) × p k x) = listed_below p n (λ k lt. each k (omega arith)) in
      listed_same (λ (x : A). ((k : ℕ) × (k < n) × p k x) ⊎ p n x) (λ (x : A). (k : ℕ) × (k < suc n) × p k x)
      (λ x h. elim h [ inl some ↦ (some.0, omega (arith, some.1), some.2) | inr here ↦ (n, omega arith, here) ])
      (λ x h. below_more (λ (k : ℕ). p k x → ((k : ℕ) × (k < n) × p k x) ⊎ p n x) n (λ k lt is. inl (k, lt, is)) (λ is. inr is) h.0 (omega (arith, h.1)) h.2)
      (listed_either (λ (x : A). (k : ℕ) × (k < n) × p k x) (p n) before (each n (omega arith)))

  -- Those of them of which something decided holds too.
  pub listed_where : (p q : A → Type 0) → ((x : A) → IsDecided (q x)) → HasList p → HasList (λ (x : A). p x × q x)
  listed_where p q d l = record {
    list = filter (λ x. is_so (d x)) l.list;
    exact = λ x. (
      λ h. let it = (in_filter (λ x. is_so (d x)) l.list x).0 h in ((l.exact x).0 it.0, true_so (d x) it.1),
      λ h. (in_filter (λ x. is_so (d x)) l.list x).1 ((l.exact x).1 h.0, so_true (d x) h.1),
    );
  }

  module _ (d : (x y : A) → IsDecided (x ≡ y)) where
    -- Whether a list has an element is decided.
    pub contains_decided : (xs : List A) (y : A) → IsDecided (Contains xs y)
    contains_decided [] y = inr (not_in_none y)
    contains_decided (x ∷ xs) y = elim (d x y) [
      | inl same ↦ inl (subst (λ (z : A). Contains (x ∷ xs) z) same (at_head x xs))
      | inr other ↦ elim (contains_decided xs y) [
        | inl there ↦ inl (behind_head x xs y there)
        | inr none ↦ inr (λ h. elim (head_or_behind x xs y h) [ inl same ↦ other same | inr there ↦ none there ])
      ]
    ]

    once_list : (xs : List A) → (ys : List A) × AreOnce ys × ((y : A) → Contains ys y ↔ Contains xs y)
    once_list [] = ([], λ m n d lt n_in. absurd (omega arith), λ y. (λ h. h, λ h. h))
    once_list (x ∷ xs) =
        let rest = once_list xs in
        elim (contains_decided xs x) [
          | inl there ↦ (
            rest.0,
            rest.1,
            λ y. (
              λ h. behind_head x xs y ((rest.2 y).0 h),
              λ h. elim (head_or_behind x xs y h) [
                | inl same ↦ (rest.2 y).1 (subst (λ (z : A). Contains xs z) same there)
                | inr behind ↦ (rest.2 y).1 behind
              ],
            ),
          )
          | inr new ↦ (
            x ∷ rest.0,
            once_more x rest.0 (λ h. new ((rest.2 x).0 h)) rest.1,
            λ y. (
              λ h. elim (head_or_behind x rest.0 y h) [
                | inl same ↦ subst (λ (z : A). Contains (x ∷ xs) z) same (at_head x xs)
                | inr behind ↦ behind_head x xs y ((rest.2 y).0 behind)
              ],
              λ h. elim (head_or_behind x xs y h) [
                | inl same ↦ subst (λ (z : A). Contains (x ∷ rest.0) z) same (at_head x rest.0)
                | inr behind ↦ behind_head x rest.0 y ((rest.2 y).1 behind)
              ],
            ),
          )
        ]

    -- A list of the same elements, none twice.
    pub listed_once : (p : A → Type 0) → HasList p → (l : HasList p) × AreOnce l.list
    listed_once p l =
        let it = once_list l.list in
        (record { list = it.0; exact = λ x. (λ h. (l.exact x).0 ((it.2 x).0 h), λ h. (it.2 x).1 ((l.exact x).1 h)) }, it.1)

module _ {A B : Type 0} (q : A → B → Type 0) where
  over_list : (xs : List A) → ((x : A) → Contains xs x → HasList (q x)) → HasList (λ (y : B). (x : A) × Contains xs x × q x y)
  over_list [] each = listed_none (λ (y : B). (x : A) × Contains [] x × q x y) (λ y h. not_in_none h.0 h.1)
  over_list (x ∷ xs) each =
      let rest : HasList (λ (y : B). (z : A) × Contains xs z × q z y) = over_list xs (λ z h. each z (behind_head x xs z h)) in
      listed_same (λ (y : B). q x y ⊎ ((z : A) × Contains xs z × q z y)) (λ (y : B). (z : A) × Contains (x ∷ xs) z × q z y)
      (λ y h. elim h [ inl here ↦ (x, at_head x xs, here) | inr some ↦ (some.0, behind_head x xs some.0 some.1, some.2) ])
      (λ y h. elim (head_or_behind x xs h.0 h.1) [
        | inl same ↦ inl (subst (λ (z : A). q z y) (sym same) h.2)
        | inr behind ↦ inr (h.0, behind, h.2)
      ])
      (listed_either (q x) (λ (y : B). (z : A) × Contains xs z × q z y) (each x (at_head x xs)) rest)

  -- Those that belong to some of the elements of a list.
  pub listed_over : (p : A → Type 0) → HasList p → ((x : A) → p x → HasList (q x)) → HasList (λ (y : B). (x : A) × p x × q x y)
  listed_over p l each =
      listed_same (λ (y : B). (x : A) × Contains l.list x × q x y) (λ (y : B). (x : A) × p x × q x y) (λ y h. (h.0, (l.exact h.0).0 h.1, h.2)) (λ y h. (h.0, (l.exact h.0).1 h.1, h.2))
      (over_list l.list (λ x h. each x ((l.exact x).0 h)))
