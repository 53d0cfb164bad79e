-- Laws of lists and options that several crates use.
use Rattle.std.proofs.Common.{arith, true, List, ℕ, ◌≡◌, ◌∷◌, ap, refl, [], map, ◌++◌, zero, ◌<◌, length, suc, take, get_or, Bool, cond, ◌∙◌, Option, Some, None, false, drop, ◌≤◌, ◌≢◌}
use Rattle.std.proofs.lemmas.Slice.Eq.{bytes_eq-Decides}
use Rattle.std.specs.Prelude.{bytes_eq, filter, slice_get}

pub same_bytes : (xs ys : List ℕ) → bytes_eq xs ys ≡ true → xs ≡ ys
same_bytes xs ys e = let d = bytes_eq-Decides xs ys in grind arith

pub bytes_same : (xs : List ℕ) → bytes_eq xs xs ≡ true
bytes_same xs = let d = bytes_eq-Decides xs xs in grind arith

pub one_more : (xs : List ℕ) (m : ℕ) → m < length xs → take (suc m) xs ≡ take m xs ++ get_or xs m 0 ∷ []
one_more [] m lt = absurd (omega arith)
one_more (x ∷ xs) zero lt = refl
one_more (x ∷ xs) (suc m) lt = ap (λ (ys : List ℕ). x ∷ ys) (one_more xs m (omega arith))

pub filter_same : (f g : ℕ → Bool) (xs : List ℕ) → ((m : ℕ) → m < length xs → f (get_or xs m 0) ≡ g (get_or xs m 0)) → filter f xs ≡ filter g xs
filter_same f g [] same = refl
filter_same f g (x ∷ xs) same =
    let rest = filter_same f g xs (λ m lt. same (suc m) (omega arith)) in
    let here = same zero (omega arith) in
    λ i. cond (here i) (x ∷ rest i) (rest i)

pub both_none : {X : Type 0} (xs ys : List X) → xs ≡ [] → ys ≡ [] → xs ++ ys ≡ []
both_none xs ys left right = ap (λ zs. zs ++ ys) left ∙ right

pub left_none : {X : Type 0} (xs ys : List X) → xs ++ ys ≡ [] → xs ≡ []
left_none [] ys none = refl
left_none (x ∷ xs) ys none = absurd (cc)

pub no_value : {X : Type 0} (o : Option X) → ((x : X) → o ≡ Some x → ⊥) → o ≡ None
no_value None not = refl
no_value (Some x) not = absurd (not x refl)

pub at_place : (t : Bool) (a n : ℕ) → cond t (Some a) None ≡ Some n → a ≡ n
at_place true a n is = cc
at_place false a n is = absurd (cc)

pub at_none : (t : Bool) (a : ℕ) → cond t (Some a) None ≡ None → t ≡ false
at_none true a is = absurd (cc)
at_none false a is = refl

pub map_map : {A B C : Type 0} (g : B → C) (f : A → B) (xs : List A) → map g (map f xs) ≡ map (λ x. g (f x)) xs
map_map g f [] = refl
map_map g f (x ∷ xs) = ap (λ l. g (f x) ∷ l) (map_map g f xs)

pub cut_at : {X : Type 0} (xs : List X) (p : ℕ) (x : X) → slice_get xs p ≡ Some x → xs ≡ take p xs ++ x ∷ drop (suc p) xs
cut_at [] p x is = absurd (cc)
cut_at (y ∷ ys) zero x is = let same : y ≡ x = cc in ap (λ z. z ∷ ys) same
cut_at (y ∷ ys) (suc p) x is = ap (λ zs. y ∷ zs) (cut_at ys p x is)

pub any_default : {X : Type 0} (xs : List X) (k : ℕ) (d e : X) → k < length xs → get_or xs k d ≡ get_or xs k e
any_default [] k d e lt = absurd (omega (arith, lt))
any_default (x ∷ xs) zero d e lt = refl
any_default (x ∷ xs) (suc k) d e lt = any_default xs k d e (omega (arith, lt))

pub take_all : {X : Type 0} (xs : List X) (i : ℕ) → length xs ≤ i → take i xs ≡ xs
take_all [] zero le = refl
take_all [] (suc i) le = refl
take_all (x ∷ xs) zero le = absurd (omega arith)
take_all (x ∷ xs) (suc i) le = ap (λ zs. x ∷ zs) (take_all xs i (omega arith))

pub nil_of : {X : Type 0} (xs : List X) → (xs ≢ [] → ⊥) → xs ≡ []
nil_of [] h = refl
nil_of (x ∷ xs) h = absurd (h (λ e. cc))

pub not_nil : {X : Type 0} (x : X) (xs : List X) → x ∷ xs ≡ [] → ⊥
not_nil x xs e = cc

pub append_same : {A : Type 0} (xs ys zs : List A) → xs ++ ys ≡ xs ++ zs → ys ≡ zs
append_same [] ys zs e = e
append_same (x ∷ xs) ys zs e = append_same xs ys zs (cc)
