-- Which names are the same, and which are among others.
use Rattle.std.proofs.Common.{◌≡◌, ℕ, ◌+◌, ◌≤◌, ◌<◌, ◌^◌, zero, suc, true, false, List, ◌++◌, map, drop, inl, inr, refl, ◌∙◌, ap, subst, arith}
use Rattle.std.specs.Prelude.{bytes_eq}
use Rattle.std.specs.List.{range_with_len}
use Rattle.std.proofs.Math.Nat.{eq-or-lt_of_le}
use Rattle.std.proofs.lemmas.Fmt.{decimal_injective}
use Rattle.std.proofs.lemmas.List.Folds.{list_any-append}
use Rattle.std.proofs.lemmas.Slice.Eq.{bytes_eq-Decides}
use Rattle.reo_lexer.proofs.Spelled.{never}
use Rattle.reo_rules.specs.Lists.{has_name}
use Rattle.reo_gen.specs.Names.{link, output}
pub use Rattle.std.proofs.lemmas.Bool.{or_left as or-left, or_right as or-right, or_from as or-neither}
use Rattle.reo_values.proofs.Sequences.{bytes_same}

pub other-name : (a b : List ℕ) → (a ≡ b → ⊥) → bytes_eq a b ≡ false
other-name a b h = never (bytes_eq a b) (λ e. h ((bytes_eq-Decides a b).0 e))

abbrev pub Small : ℕ → Type 0
Small j = j < 2 ^ 64

pub other-outputs : (m j : ℕ) → Small m → Small j → (m ≡ j → ⊥) → bytes_eq (output m) (output j) ≡ false
other-outputs m j hm hj h = other-name (output m) (output j) (λ e. h (decimal_injective m j hm hj (ap (λ l. drop 1 l) e)))

pub other-links : (m j : ℕ) → Small m → Small j → (m ≡ j → ⊥) → bytes_eq (link m) (link j) ≡ false
other-links m j hm hj h = other-name (link m) (link j) (λ e. h (decimal_injective m j hm hj (ap (λ l. drop 1 l) e)))

-- A name among the first of some, or among the last.
pub has-left : (xs ys : List (List ℕ)) (n : List ℕ) → has_name xs n ≡ true → has_name (xs ++ ys) n ≡ true
has-left xs ys n h = list_any-append (bytes_eq n) xs ys ∙ or-left (has_name xs n) (has_name ys n) h

pub has-right : (xs ys : List (List ℕ)) (n : List ℕ) → has_name ys n ≡ true → has_name (xs ++ ys) n ≡ true
has-right xs ys n h = list_any-append (bytes_eq n) xs ys ∙ or-right (has_name xs n) (has_name ys n) h

pub has-neither : (xs ys : List (List ℕ)) (n : List ℕ) → has_name xs n ≡ false → has_name ys n ≡ false → has_name (xs ++ ys) n ≡ false
has-neither xs ys n h k = list_any-append (bytes_eq n) xs ys ∙ or-neither (has_name xs n) (has_name ys n) h k

-- A name of a range of numbers is among them.
pub has-one : (f : ℕ → List ℕ) (a n j : ℕ) → a ≤ j → j < a + n → has_name (map f (range_with_len a n)) (f j) ≡ true
has-one f a zero j l u = absurd (omega arith)
has-one f a (suc n) j l u =
    elim (eq-or-lt_of_le l) [
      | inl e ↦ or-left (bytes_eq (f j) (f a)) (has_name (map f (range_with_len (a + 1) n)) (f j)) (subst (λ k. bytes_eq (f k) (f a) ≡ true) e (bytes_same (f a)))
      | inr k ↦ or-right (bytes_eq (f j) (f a)) (has_name (map f (range_with_len (a + 1) n)) (f j)) (has-one f (a + 1) n j (omega arith) (omega arith))
    ]

-- A name that is none of a range of numbers is not among them.
pub has-none : (f : ℕ → List ℕ) (a n : ℕ) (name : List ℕ) → ((j : ℕ) → a ≤ j → j < a + n → bytes_eq name (f j) ≡ false) → has_name (map f (range_with_len a n)) name ≡ false
has-none f a zero name h = refl
has-none f a (suc n) name h = or-neither (bytes_eq name (f a)) (has_name (map f (range_with_len (a + 1) n)) name) (h a (omega arith) (omega arith)) (has-none f (a + 1) n name (λ j l u. h j (omega arith) (omega arith)))
