-- Fronts of what is left.
use Rattle.std.proofs.Common.{◌≡◌, ℕ, Bool, true, false, cond, List, [], ◌∷◌, ◌++◌, length, take, drop, ◌⊎◌, inl, inr, refl, sym, ap, arith, length-append}
use Rattle.std.proofs.Math.Seq.{take-append_seam}
use Rattle.std.specs.List.{list_all, take_while}
use Rattle.std.proofs.lemmas.List.Sums.{take_while-cons}
use Rattle.std.proofs.lemmas.Bool.{and_from}
use Rattle.reo_lexer.specs.Faults.{ends}

drop-seam : (a b : List ℕ) → drop (length a) (a ++ b) ≡ b
drop-seam [] b = refl
drop-seam (x ∷ a) b = drop-seam a b

-- A list cut at the length of its first part.
pub take-cut : (l a b : List ℕ) (n : ℕ) → l ≡ a ++ b → n ≡ length a → take n l ≡ a
take-cut l a b n e h = rw (e, h) (take-append_seam a b)

pub drop-cut : (l a b : List ℕ) (n : ℕ) → l ≡ a ++ b → n ≡ length a → drop n l ≡ b
drop-cut l a b n e h = rw (e, h) (drop-seam a b)

-- What is behind the same list twice is the same.
pub cancel : (a b c : List ℕ) → a ++ c ≡ b ++ c → a ≡ b
cancel [] [] c e = refl
cancel [] (x ∷ b) c e = absurd (omega (arith, ap length e, length-append b c))
cancel (x ∷ a) [] c e = absurd (omega (arith, ap length e, length-append a c))
cancel (x ∷ a) (y ∷ b) c e = let p : x ≡ y = cc in let q : a ≡ b = cancel a b c (cc) in cc

-- Two fronts of a list: one goes on behind the other.
pub fronts : (a b c d : List ℕ) → a ++ b ≡ c ++ d → ((m : List ℕ) × (c ≡ a ++ m) × (b ≡ m ++ d)) ⊎ ((m : List ℕ) × (a ≡ c ++ m) × (d ≡ m ++ b))
fronts [] b c d e = inl (c, refl, e)
fronts (x ∷ a) b [] d e = inr (x ∷ a, refl, sym e)
fronts (x ∷ a) b (y ∷ c) d e =
    let p : x ≡ y = cc in
    elim (fronts a b c d (cc)) [
      | inl (m, q, r) ↦ inl (m, rw (p, q) refl, r)
      | inr (m, q, r) ↦ inr (m, rw (← p) (rw q refl), r)
    ]

-- What is left behind the longest front of a class.
abbrev pub past : (ℕ → Bool) → List ℕ → List ℕ
past p [] = []
past p (b ∷ bs) = cond (p b) (past p bs) (b ∷ bs)

-- The longest front of a class, and what is behind it.
pub run-past : (p : ℕ → Bool) (bs : List ℕ) → (bs ≡ take_while p bs ++ past p bs) × (list_all p (take_while p bs) ≡ true) × (ends p (past p bs) ≡ true)
run-past p [] = (refl, refl, refl)
run-past p (b ∷ bs) = rw take_while-cons (by (p b) refl (run-past p bs))
  where
    by : (x : Bool) → p b ≡ x → (bs ≡ take_while p bs ++ past p bs) × (list_all p (take_while p bs) ≡ true) × (ends p (past p bs) ≡ true)
        → (b ∷ bs ≡ cond x (b ∷ take_while p bs) [] ++ cond x (past p bs) (b ∷ bs)) × (list_all p (cond x (b ∷ take_while p bs) []) ≡ true) × (ends p (cond x (past p bs) (b ∷ bs)) ≡ true)
    by true e (w, i, j) = (ap (λ l. b ∷ l) w, and_from (p b) (list_all p (take_while p bs)) e i, j)
    by false e h = (refl, refl, rw e refl)
