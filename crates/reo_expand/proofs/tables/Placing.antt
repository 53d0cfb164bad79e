-- The first place at which a test holds.
use Rattle.std.proofs.Common.{arith, ◌≡◌, ◌∙◌, ◌<◌, ◌+◌, ℕ, zero, suc, Bool, true, false, not, cond, nat_lt, Option, Some, None, List, [], ◌∷◌, ◌++◌, length, take, position, get_or, refl, sym, ap}
use Rattle.std.specs.Prelude.{bytes_eq, ◌||◌}
use Rattle.std.specs.List.{list_any, position_or_len}
use Rattle.std.proofs.lemmas.Bool.Decides.{nat_tests}
use Rattle.std.proofs.lemmas.Slice.Eq.{bytes_eq-Decides}
use Rattle.std.proofs.Math.Seq.{get_or-append_seam}
use Rattle.std.proofs.lemmas.List.{get_or_append_left}
use Rattle.reo_values.proofs.Naturals.{one_on, positive}
use Rattle.reo_rules.specs.Lists.{has_name}
use Rattle.reo_expand.specs.tables.Firsts.{or_else, place_at, place_in, is_before}

-- One place farther.
abbrev raised : Option ℕ → Option ℕ
raised None = None
raised (Some n) = Some (suc n)

further : (l : ℕ) (b : Bool) → cond b (Some (1 + l)) None ≡ raised (cond b (Some l) None)
further l true = let e : 1 + l ≡ suc l = omega arith in ap Some e
further l false = refl

module _ {X : Type 0} (p : X → Bool) where
  by : (b : Bool) (l n : ℕ) → cond (nat_lt (cond (not b) (1 + l) 0) (suc n)) (Some (cond (not b) (1 + l) 0)) None ≡ cond b (Some 0) (raised (cond (nat_lt l n) (Some l) None))
  by true l n = ap (λ t. cond t (Some 0) None) (positive n)
  by false l n = ap (λ t. cond t (Some (1 + l)) None) (one_on l n) ∙ further l (nat_lt l n)

  pub position-cons : (x : X) (xs : List X) → position p (x ∷ xs) ≡ cond (p x) (Some 0) (raised (position p xs))
  position-cons x xs = by (p x) (position_or_len p xs) (length xs)

  -- One item more at the end.
  abbrev at_end : X → ℕ → Option ℕ
  at_end x n = cond (p x) (Some n) None

  pushed : (b : Bool) (o : Option ℕ) (n : ℕ) (x : X) → cond b (Some 0) (raised (or_else o (at_end x n))) ≡ or_else (cond b (Some 0) (raised o)) (at_end x (suc n))
  pushed true o n x = refl
  pushed false (Some k) n x = refl
  pushed false None n x = raised-end (p x) where
    raised-end : (b : Bool) → raised (cond b (Some n) None) ≡ cond b (Some (suc n)) None
    raised-end true = refl
    raised-end false = refl

  pub position-push : (xs : List X) (x : X) → position p (xs ++ x ∷ []) ≡ or_else (position p xs) (at_end x (length xs))
  position-push [] x = position-cons x []
  position-push (y ∷ ys) x =
      position-cons y (ys ++ x ∷ [])
      ∙ ap (λ o. cond (p y) (Some 0) (raised o)) (position-push ys x)
      ∙ pushed (p y) (position p ys) (length ys) x
      ∙ ap (λ o. or_else o (at_end x (suc (length ys)))) (sym (position-cons y ys))

  -- It is before a place exactly where the test holds of an item before the place.
  not_before : (o : Option ℕ) → is_before o 0 ≡ false
  not_before None = refl
  not_before (Some n) = grind (arith, nat_tests)

  before_raised : (o : Option ℕ) (k : ℕ) → is_before (raised o) (suc k) ≡ is_before o k
  before_raised None k = refl
  before_raised (Some n) k = grind (arith, nat_tests)

  before-step : (b : Bool) (o : Option ℕ) (k : ℕ) → is_before (cond b (Some 0) (raised o)) (suc k) ≡ (b || is_before o k)
  before-step true o k = positive k
  before-step false o k = before_raised o k

  pub before-is : (xs : List X) (k : ℕ) → is_before (position p xs) k ≡ list_any p (take k xs)
  before-is xs zero = not_before (position p xs)
  before-is [] (suc k) = refl
  before-is (x ∷ xs) (suc k) =
      ap (λ o. is_before o (suc k)) (position-cons x xs)
      ∙ before-step (p x) (position p xs) k
      ∙ ap (λ b. p x || b) (before-is xs k)

  -- Where it is nowhere, the test holds of none.
  pub nowhere : (xs : List X) → position p xs ≡ None → list_any p xs ≡ false
  nowhere [] h = refl
  nowhere (x ∷ xs) h = cases (p x) (position p xs) (sym (position-cons x xs) ∙ h) (nowhere xs) where
    cases : (b : Bool) (o : Option ℕ) → cond b (Some 0) (raised o) ≡ None → (o ≡ None → list_any p xs ≡ false) → (b || list_any p xs) ≡ false
    cases true o e rest = absurd (cc)
    cases false None e rest = rest refl
    cases false (Some n) e rest = absurd (cc)

  pub within : (xs : List X) (n : ℕ) → position p xs ≡ Some n → n < length xs
  within [] n h = absurd (cc)
  within (x ∷ xs) n h = cases (p x) (position p xs) (sym (position-cons x xs) ∙ h) (within xs) where
    some-is : (a b : ℕ) → Some a ≡ Some b → a ≡ b
    some-is a b e = cc

    cases : (b : Bool) (o : Option ℕ) → cond b (Some 0) (raised o) ≡ Some n → ((m : ℕ) → o ≡ Some m → m < length xs) → n < suc (length xs)
    cases true o e rest = let z : 0 ≡ n = some-is 0 n e in omega arith
    cases false None e rest = absurd (cc)
    cases false (Some m) e rest = let z : suc m ≡ n = some-is (suc m) n e in let l : m < length xs = rest m refl in omega arith

-- A name that is there already changes nothing.
module _ (names : List (List ℕ)) (places : List ℕ) (name : List ℕ) (place : ℕ) (n : List ℕ) where
  abbrev noted : Option ℕ
  noted = cond (bytes_eq n name) (Some place) None

  there : (b : Bool) → bytes_eq n name ≡ b → (o : Option ℕ) → position (bytes_eq n) names ≡ o → has_name names name ≡ true → place_at places o ≡ or_else (place_at places o) (cond b (Some place) None)
  there b e (Some k) at has = refl
  there false e None at has = refl
  there true e None at has =
      let same : n ≡ name = (bytes_eq-Decides n name).0 e in
      let none : list_any (bytes_eq n) names ≡ false = nowhere (bytes_eq n) names at in
      absurd (apart (sym none ∙ ap (λ m. list_any (bytes_eq m) names) same ∙ has)) where
        apart : false ≡ true → ⊥
        apart h = cc

  new_at : (o : Option ℕ) → position (bytes_eq n) names ≡ o → length places ≡ length names → (b : Bool) → bytes_eq n name ≡ b
      → place_at (places ++ place ∷ []) (or_else o (cond b (Some (length names)) None)) ≡ or_else (place_at places o) (cond b (Some place) None)
  new_at (Some k) at even b e =
      let lt : k < length places = (let l : k < length names = within (bytes_eq n) names k at in omega arith) in
      ap Some (get_or_append_left places (place ∷ []) 0 k lt)
  new_at None at even true e = ap Some (ap (λ i. get_or (places ++ place ∷ []) i 0) (sym even) ∙ get_or-append_seam places place [] 0)
  new_at None at even false e = refl

  pub same_places : has_name names name ≡ true → place_in names places n ≡ or_else (place_in names places n) noted
  same_places has = there (bytes_eq n name) refl (position (bytes_eq n) names) refl has

  pub more_places : length places ≡ length names → place_in (names ++ name ∷ []) (places ++ place ∷ []) n ≡ or_else (place_in names places n) noted
  more_places even =
      ap (place_at (places ++ place ∷ [])) (position-push (bytes_eq n) names name)
      ∙ new_at (position (bytes_eq n) names) refl even (bytes_eq n name) refl
