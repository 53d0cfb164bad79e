-- One text of names tells the names.
use Rattle.std.proofs.Common.{◌≡◌, ℕ, true, ◌&&◌, List, [], ◌∷◌, ◌++◌, refl, sym, subst}
use Rattle.std.specs.Cmp.{both_ways}
use Rattle.std.specs.Prelude.{bytes_eq}
use Rattle.std.specs.List.{flat_map}
use Rattle.std.specs.Cmp.Lexicographic.{pointwise}
use Rattle.std.proofs.lemmas.Slice.Eq.{bytes_eq-Decides, slice_eq-Decides}
use Rattle.reo_values.specs.Quoted.{quoted}
use Rattle.reo_values.proofs.Quotes.{quoted_unique}
use Rattle.reo_values.proofs.Sequences.{same_bytes, bytes_same}

-- a name in quotes is not empty
never_empty : (x r : List ℕ) → [] ≡ quoted x ++ r → ⊥
never_empty x r e = cc

-- names with the same text are the same
texts_unique : (xs ys : List (List ℕ)) → flat_map quoted xs ≡ flat_map quoted ys → xs ≡ ys
texts_unique [] [] e = refl
texts_unique [] (y ∷ ys) e = absurd (never_empty y (flat_map quoted ys) e)
texts_unique (x ∷ xs) [] e = absurd (never_empty x (flat_map quoted xs) (sym e))
texts_unique (x ∷ xs) (y ∷ ys) e =
    let first = quoted_unique x y (flat_map quoted xs) (flat_map quoted ys) e in
    let more = texts_unique xs ys first.1 in
    λ i. first.0 i ∷ more i

-- the test finds the same names equal
names_same : (xs : List (List ℕ)) → pointwise bytes_eq xs xs ≡ true
names_same [] = refl
names_same (x ∷ xs) = λ i. bytes_same x i && names_same xs i

-- and names that it finds equal are the same
names_told : (xs ys : List (List ℕ)) → pointwise bytes_eq xs ys ≡ true → xs ≡ ys
names_told xs ys = (slice_eq-Decides bytes_eq-Decides xs ys (pointwise bytes_eq xs ys) refl).0

-- two lists of names are tested by their texts
pub seen_by_texts : (xs ys : List (List ℕ)) → bytes_eq (flat_map quoted xs) (flat_map quoted ys) ≡ pointwise bytes_eq xs ys
seen_by_texts xs ys =
    both_ways (bytes_eq (flat_map quoted xs) (flat_map quoted ys)) (pointwise bytes_eq xs ys)
    (λ e. subst (λ zs. pointwise bytes_eq xs zs ≡ true) (texts_unique xs ys (same_bytes (flat_map quoted xs) (flat_map quoted ys) e)) (names_same xs))
    (λ e. subst (λ zs. bytes_eq (flat_map quoted xs) (flat_map quoted zs) ≡ true) (names_told xs ys e) (bytes_same (flat_map quoted xs)))
