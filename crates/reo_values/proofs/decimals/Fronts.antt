-- The front of a list that is made of bytes of one kind.
use Rattle.std.proofs.Common.{◌≡◌, ℕ, List, [], ◌∷◌, ◌++◌, ap, refl, sym, subst, drop, nat_eq, false}
use Rattle.std.proofs.lemmas.Bool.{eqb-false}
use Rattle.std.specs.List.{All}
use Rattle.std.proofs.lemmas.List.Elements.{All-head, All-tail}
use Rattle.reo_values.proofs.Words.{first_or}

-- lists with other first bytes are no equal lists
pub heads_apart : (x y : ℕ) (xs ys : List ℕ) → nat_eq x y ≡ false → x ∷ xs ≡ y ∷ ys → ⊥
heads_apart x y xs ys apart e = eqb-false x y apart (ap first_or e)

-- the list does not begin with a byte of the kind
abbrev pub NotFirst : (ℕ → Type 0) → List ℕ → Type 0
NotFirst P [] = Unit {0}
NotFirst P (byte ∷ bytes) = P byte → ⊥

-- the first byte of another kind tells the front and what comes after it
pub front_unique : (P : ℕ → Type 0) (w v r s : List ℕ) → All P w → All P v → NotFirst P r → NotFirst P s → w ++ r ≡ v ++ s → (w ≡ v) × (r ≡ s)
front_unique P [] [] r s a b p q e = (refl, e)
front_unique P [] (c ∷ cs) [] s a b p q e = absurd (cc)
front_unique P [] (c ∷ cs) (d ∷ ds) s a b p q e = absurd (p (subst P (sym (ap first_or e)) (All-head P c cs b)))
front_unique P (c ∷ cs) [] r [] a b p q e = absurd (cc)
front_unique P (c ∷ cs) [] r (d ∷ ds) a b p q e = absurd (q (subst P (ap first_or e) (All-head P c cs a)))
front_unique P (c ∷ cs) (d ∷ ds) r s a b p q e =
    let more = front_unique P cs ds r s (All-tail P c cs a) (All-tail P d ds b) p q (ap (λ l. drop 1 l) e) in
    ((λ i. first_or (e i) ∷ more.0 i), more.1)
