-- Lists that grow at the end.
use Rattle.std.proofs.Common.{◌≡◌, ◌∙◌, ◌⊎◌, ℕ, zero, suc, inl, inr, List, [], ◌∷◌, ◌++◌, length, fold, Some, slice_get, refl, sym, ap, Bool, true, false, bytes_eq, cond, arith, ◌+◌, ◌<◌, get_or, take}
use Rattle.std.specs.Prelude.{◌||◌}
use Rattle.std.specs.List.{list_any}
use Rattle.std.proofs.lemmas.List.{take_more}
use Rattle.std.proofs.lemmas.Slice.Eq.{bytes_eq-Decides}
use Rattle.std.proofs.lemmas.List.Folds.{list_any-append}
use Rattle.std.proofs.lemmas.Option.{same_Some}
use Rattle.reo_rules.specs.Lists.{has_name}
use Rattle.reo_rules.specs.Names.{with_name}
use Rattle.std.proofs.lemmas.Bool.{or_left as left_true, or_right as right_true}

-- What has a number keeps it.
pub more_keeps : {X : Type 0} (xs ys : List X) (n : ℕ) (x : X) → slice_get xs n ≡ Some x → slice_get (xs ++ ys) n ≡ Some x
more_keeps [] ys n x is = absurd (cc)
more_keeps (z ∷ zs) ys zero x is = is
more_keeps (z ∷ zs) ys (suc n) x is = more_keeps zs ys n x is

-- And the new one has the number behind.
pub last_is : {X : Type 0} (xs : List X) (x : X) → slice_get (xs ++ x ∷ []) (length xs) ≡ Some x
last_is [] x = refl
last_is (z ∷ zs) x = last_is zs x

-- One of the longer list is one of the shorter, or the new one.
pub old_or_last : {X : Type 0} (xs : List X) (x : X) (n : ℕ) (y : X) → slice_get (xs ++ x ∷ []) n ≡ Some y → (slice_get xs n ≡ Some y) ⊎ ((n ≡ length xs) × (y ≡ x))
old_or_last [] x zero y is = inr (refl, sym (same_Some x y is))
old_or_last [] x (suc n) y is = absurd (cc)
old_or_last (z ∷ zs) x zero y is = inl is
old_or_last (z ∷ zs) x (suc n) y is = elim (old_or_last zs x n y is) [ inl w ↦ inl w | inr w ↦ inr (ap suc w.0, w.1) ]

-- A fold over one more.
pub fold_push : {A B : Type 0} (f : B → A → B) (b : B) (xs : List A) (x : A) → fold f b (xs ++ x ∷ []) ≡ f (fold f b xs) x
fold_push f b [] x = refl
fold_push f b (z ∷ zs) x = fold_push f (f b z) zs x

-- The tests of a name, where one more was noted.
has_both : (names : List (List ℕ)) (x name : List ℕ) → has_name (names ++ x ∷ []) name ≡ (has_name names name || (bytes_eq name x || false))
has_both names x name = list_any-append (bytes_eq name) names (x ∷ [])

noted_by : (t : Bool) (names : List (List ℕ)) (x name : List ℕ) → t ≡ has_name names x → has_name (cond t names (names ++ x ∷ [])) name ≡ (has_name names name || (bytes_eq name x || false))
noted_by false names x name is = has_both names x name
noted_by true names x name is = by (bytes_eq name x) refl
  where
    kept : (b : Bool) → b ≡ (b || (false || false))
    kept true = refl
    kept false = refl

    there : (b : Bool) → b ≡ true → b ≡ (b || (true || false))
    there true e = refl
    there false e = absurd (cc)

    by : (b : Bool) → bytes_eq name x ≡ b → has_name names name ≡ (has_name names name || (b || false))
    by false e = kept (has_name names name)
    by true e =
        let same : name ≡ x = (bytes_eq-Decides name x).0 e in
        there (has_name names name) (ap (has_name names) same ∙ sym is)

pub noted : (names : List (List ℕ)) (x name : List ℕ) → has_name (with_name names x) name ≡ (has_name names name || (bytes_eq name x || false))
noted names x name = noted_by (has_name names x) names x name refl

pub noted_push : (names : List (List ℕ)) (x name : List ℕ) → has_name (names ++ x ∷ []) name ≡ (has_name names name || (bytes_eq name x || false))
noted_push = has_both

-- A test of a list that grows, and one that holds somewhere.
either : (a b : Bool) → a ≡ false → b ≡ false → (a || (b || false)) ≡ false
either false false p q = refl
either false true p q = absurd (cc)
either true b p q = absurd (cc)

pub any_more : {X : Type 0} (f : X → Bool) (xs : List X) (i : ℕ) (x : X) → i < length xs → x ≡ get_or xs i x → list_any f (take i xs) ≡ false → f x ≡ false → list_any f (take (i + 1) xs) ≡ false
any_more f xs i x below is none here =
    ap (list_any f) (take_more xs i x below ∙ ap (λ v. take i xs ++ v ∷ []) (sym is)) ∙ list_any-append f (take i xs) (x ∷ []) ∙ either (list_any f (take i xs)) (f x) none here

pub any_hit : {X : Type 0} (f : X → Bool) (xs : List X) (i : ℕ) (x : X) → i < length xs → x ≡ get_or xs i x → f x ≡ true → list_any f xs ≡ true
any_hit f [] i x below is here = absurd (omega arith)
any_hit f (y ∷ ys) zero x below is here = left_true (f y) (list_any f ys) (ap f (sym is) ∙ here)
any_hit f (y ∷ ys) (suc i) x below is here = right_true (f y) (list_any f ys) (any_hit f ys i x (omega arith) is here)
