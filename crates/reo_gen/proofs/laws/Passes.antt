-- Passes over parts that are made for each number of a range.
use Rattle.std.proofs.Common.{◌≡◌, ℕ, ◌+◌, ◌≤◌, ◌<◌, zero, suc, Bool, true, false, List, [], ◌∷◌, ◌++◌, map, inl, inr, refl, sym, ◌∙◌, ap, subst, arith, append_assoc, append-nil}
use Rattle.std.specs.List.{range_with_len, flat_map, list_any}
use Rattle.std.proofs.Math.Nat.{eq-or-lt_of_le}
pub use Rattle.reo_values.proofs.Sequences.{both_none as both-none}
use Rattle.reo_rules.specs.Lists.{each_after}
use Rattle.reo_gen.proofs.laws.Written.{Lines, made_by}
use Rattle.reo_gen.proofs.laws.NameTests.{or-left, or-right, or-neither}

-- A pass that finds nothing in any of them finds nothing.
pub pass-none : {X Y : Type 0} (f : X → List Y) (make : ℕ → Lines → X) (a n : ℕ) (at : ℕ → Lines)
    → ((j : ℕ) (l : Lines) → a ≤ j → j < a + n → f (make j l) ≡ []) → flat_map f (made_by (map make (range_with_len a n)) at) ≡ []
pass-none f make a zero at h = refl
pass-none f make a (suc n) at h =
    both-none (f (make a (at zero))) (flat_map f (made_by (map make (range_with_len (a + 1) n)) (λ j. at (suc j)))) (h a (at zero) (omega arith) (omega arith))
    (pass-none f make (a + 1) n (λ j. at (suc j)) (λ j l k u. h j l (omega arith) (omega arith)))

-- So does one that judges each by those before it, where something holds of these.
pub after-none : {X Y : Type 0} (f : List X → X → List Y) (make : ℕ → Lines → X) (Q : ℕ → List X → Type 0) (a n : ℕ) (at : ℕ → Lines) (before : List X) → Q a before
    → ((j : ℕ) (b : List X) (l : Lines) → a ≤ j → j < a + n → Q j b → f b (make j l) ≡ []) → ((j : ℕ) (b : List X) (l : Lines) → a ≤ j → j < a + n → Q j b → Q (j + 1) (b ++ make j l ∷ []))
    → each_after f before (made_by (map make (range_with_len a n)) at) ≡ []
after-none f make Q a zero at before q h k = refl
after-none f make Q a (suc n) at before q h k =
    both-none (f before (make a (at zero))) (each_after f (before ++ make a (at zero) ∷ []) (made_by (map make (range_with_len (a + 1) n)) (λ j. at (suc j))))
    (h a before (at zero) (omega arith) (omega arith) q)
    (after-none f make Q (a + 1) n (λ j. at (suc j)) (before ++ make a (at zero) ∷ []) (k a before (at zero) (omega arith) (omega arith) q)
    (λ j b l i u. h j b l (omega arith) (omega arith)) (λ j b l i u. k j b l (omega arith) (omega arith)))

-- And each is judged by those before it in two lists.
pub after-append : {X Y : Type 0} (f : List X → X → List Y) (before xs ys : List X) → each_after f before (xs ++ ys) ≡ each_after f before xs ++ each_after f (before ++ xs) ys
after-append f before [] ys = ap (λ b. each_after f b ys) (sym (append-nil before))
after-append f before (x ∷ xs) ys =
    ap (λ l. f before x ++ l) (after-append f (before ++ x ∷ []) xs ys ∙ ap (λ b. each_after f (before ++ x ∷ []) xs ++ each_after f b ys) (append_assoc before (x ∷ []) xs))
    ∙ sym (append_assoc (f before x) (each_after f (before ++ x ∷ []) xs) (each_after f (before ++ (x ∷ xs)) ys))

-- A test that holds of one of them holds of some, and one that holds of none of them of none.
pub some-any : {X : Type 0} (p : X → Bool) (make : ℕ → Lines → X) (a n j : ℕ) (at : ℕ → Lines) → a ≤ j → j < a + n → ((l : Lines) → p (make j l) ≡ true) → list_any p (made_by (map make (range_with_len a n)) at) ≡ true
some-any p make a zero j at l u h = absurd (omega arith)
some-any p make a (suc n) j at l u h =
    elim (eq-or-lt_of_le l) [
      | inl e ↦ or-left (p (make a (at zero))) _ (subst (λ k. p (make k (at zero)) ≡ true) (sym e) (h (at zero)))
      | inr k ↦ or-right (p (make a (at zero))) _ (some-any p make (a + 1) n j (λ i. at (suc i)) (omega arith) (omega arith) h)
    ]

pub none-any : {X : Type 0} (p : X → Bool) (make : ℕ → Lines → X) (a n : ℕ) (at : ℕ → Lines) → ((j : ℕ) (l : Lines) → a ≤ j → j < a + n → p (make j l) ≡ false) → list_any p (made_by (map make (range_with_len a n)) at) ≡ false
none-any p make a zero at h = refl
none-any p make a (suc n) at h =
    or-neither (p (make a (at zero))) (list_any p (made_by (map make (range_with_len (a + 1) n)) (λ j. at (suc j)))) (h a (at zero) (omega arith) (omega arith))
    (none-any p make (a + 1) n (λ j. at (suc j)) (λ j l k u. h j l (omega arith) (omega arith)))

-- What is taken from each by itself.
pub made-map : {X Y : Type 0} (f : X → Y) (make : ℕ → Lines → X) (g : ℕ → Y) (a n : ℕ) (at : ℕ → Lines) → ((j : ℕ) (l : Lines) → f (make j l) ≡ g j) → map f (made_by (map make (range_with_len a n)) at) ≡ map g (range_with_len a n)
made-map f make g a zero at h = refl
made-map f make g a (suc n) at h = λ i. h a (at zero) i ∷ made-map f make g (a + 1) n (λ j. at (suc j)) h i

pub made-flat : {X Y : Type 0} (f : X → List Y) (make : ℕ → Lines → X) (g : ℕ → Y) (a n : ℕ) (at : ℕ → Lines) → ((j : ℕ) (l : Lines) → f (make j l) ≡ g j ∷ []) → flat_map f (made_by (map make (range_with_len a n)) at) ≡ map g (range_with_len a n)
made-flat f make g a zero at h = refl
made-flat f make g a (suc n) at h = λ i. h a (at zero) i ++ made-flat f make g (a + 1) n (λ j. at (suc j)) h i

-- A pass that makes something of each, by those before it, where something holds of these.
pub after-made : {X Y : Type 0} (f : List X → X → List Y) (make : ℕ → Lines → X) (g : ℕ → List Y) (Q : ℕ → List X → Type 0) (a n : ℕ) (at : ℕ → Lines) (before : List X) → Q a before
    → ((j : ℕ) (b : List X) (l : Lines) → a ≤ j → j < a + n → Q j b → f b (make j l) ≡ g j) → ((j : ℕ) (b : List X) (l : Lines) → a ≤ j → j < a + n → Q j b → Q (j + 1) (b ++ make j l ∷ []))
    → each_after f before (made_by (map make (range_with_len a n)) at) ≡ flat_map g (range_with_len a n)
after-made f make g Q a zero at before q h k = refl
after-made f make g Q a (suc n) at before q h k =
    λ i. h a before (at zero) (omega arith) (omega arith) q i
    ++ after-made f make g Q (a + 1) n (λ j. at (suc j)) (before ++ make a (at zero) ∷ []) (k a before (at zero) (omega arith) (omega arith) q) (λ j b l v u. h j b l (omega arith) (omega arith)) (λ j b l v u. k j b l (omega arith) (omega arith)) i
