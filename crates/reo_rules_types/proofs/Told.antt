-- Equal cells are those of equal types.
use Rattle.std.proofs.Common.{◌≡◌, ◌∙◌, ℕ, ◌<◌, ℤ, Bool, true, ◌&&◌, ◌==◌, ap, sym, refl, List, [], ◌∷◌, map, Some, length, slice_get, arith, bytes_eq}
use Rattle.std.specs.Ordering.{int_eq}
use Rattle.std.specs.Cmp.Lexicographic.{pointwise}
use Rattle.std.proofs.lemmas.Bool.{false≢true, and_parts, eqb-true, eq-eqb}
use Rattle.std.proofs.lemmas.Bool.Decides.{Decides-int_eq}
use Rattle.std.proofs.lemmas.Option.{slice_get-get_or}
use Rattle.reo_values.specs.declared.kindred.Kindred.{Kindred}
use Rattle.reo_values.specs.declared.kindred.Kindred.TheVariants as kinds
use Rattle.reo_values.specs.declared.kindred.Twins.{Twins}
use Rattle.reo_exprs.proofs.JoinCases.{names_decide}
use Rattle.reo_exprs.proofs.Options.{to_both}
use Rattle.reo_exprs.proofs.Steps.{kind_parts}
use Rattle.reo_exprs.proofs.Same.{int_told}
use Rattle.reo_rules_types.specs.declared.cell.TypeParts.{TypeParts}
use Rattle.reo_rules_types.specs.declared.cell.TypeParts.TheVariants as cells
use Rattle.reo_rules_types.specs.contracts.cell.TypePartsPartialEq.TheImpl.{eq-value}
use Rattle.reo_rules_types.specs.Cells.{type_at, kindred_of, Fits}

abbrev pub cell_eq : TypeParts → TypeParts → Bool
cell_eq c d = (eq-value).it c d

-- Lists that are seen through a function.
pointwise-map : {X Y : Type 0} (f : X → Y) (p : Y → Y → Bool) (xs ys : List X) → pointwise p (map f xs) (map f ys) ≡ pointwise (λ x y. p (f x) (f y)) xs ys
pointwise-map f p [] [] = refl
pointwise-map f p [] (y ∷ ys) = refl
pointwise-map f p (x ∷ xs) [] = refl
pointwise-map f p (x ∷ xs) (y ∷ ys) = ap (λ b. p (f x) (f y) && b) (pointwise-map f p xs ys)

int_same : (a c : ℤ) → a ≡ c → int_eq a c ≡ true
int_same a c e = let d = Decides-int_eq a c in grind arith

-- Cells that the test finds equal are of one type.
pub alike : (types : List Kindred) (c d : TypeParts) → cell_eq c d ≡ true → kindred_of types c ≡ kindred_of types d
alike types cells.Unit cells.Unit e = refl
alike types cells.Bool cells.Bool e = refl
alike types (cells.Int a b) (cells.Int c d) e =
    let h = and_parts (int_eq a c) (int_eq b d) e in
    λ i. kinds.Int (int_told a c h.0 i) (int_told b d h.1 i)
alike types (cells.Sym xs) (cells.Sym ys) e =
    ap kinds.Sym ((names_decide (map (λ v. v.items) xs.items) (map (λ v. v.items) ys.items)).0 (pointwise-map (λ v. v.items) bytes_eq xs.items ys.items ∙ e))
alike types (cells.Text m) (cells.Text n) e = ap kinds.Text (eqb-true m n e)
alike types (cells.Pair a b) (cells.Pair c d) e =
    let h = and_parts (a == c) (b == d) e in
    λ i. kinds.Pair (record { left = type_at types (eqb-true a c h.0 i); right = type_at types (eqb-true b d h.1 i) })
alike types _ _ e = absurd (false≢true e)

-- The parts of a type.
abbrev low_of : Kindred → ℤ → ℤ
low_of (kinds.Int low high) d = low
low_of k d = d

abbrev high_of : Kindred → ℤ → ℤ
high_of (kinds.Int low high) d = high
high_of k d = d

abbrev names_in : Kindred → List (List ℕ)
names_in (kinds.Sym names) = names
names_in k = []

abbrev most_in : Kindred → ℕ
most_in (kinds.Text most) = most
most_in k = 0

module _ (types : List Kindred) (once : (m n : ℕ) (k : Kindred) → slice_get types m ≡ Some k → slice_get types n ≡ Some k → m ≡ n) where
  -- A number of a type is the only one.
  same_at : (m n : ℕ) → m < length types → n < length types → type_at types m ≡ type_at types n → m ≡ n
  same_at m n p q e = once m n (type_at types n) (slice_get-get_or types m kinds.Unit p ∙ ap Some e) (slice_get-get_or types n kinds.Unit q)

  -- Cells of one type are equal.
  pub told : (c d : TypeParts) → Fits (length types) c → Fits (length types) d → kindred_of types c ≡ kindred_of types d → cell_eq c d ≡ true
  told cells.Unit cells.Unit p q e = refl
  told cells.Bool cells.Bool p q e = refl
  told (cells.Int a b) (cells.Int c d) p q e =
      to_both (int_eq a c) (int_eq b d) (int_same a c (ap (λ k. low_of k a) e)) (int_same b d (ap (λ k. high_of k b) e))
  told (cells.Sym xs) (cells.Sym ys) p q e =
      sym (pointwise-map (λ v. v.items) bytes_eq xs.items ys.items) ∙ ap (λ ns. pointwise bytes_eq ns (map (λ v. v.items) ys.items)) (ap names_in e) ∙ (names_decide (map (λ v. v.items) ys.items) (map (λ v. v.items) ys.items)).1 refl
  told (cells.Text m) (cells.Text n) p q e = eq-eqb m n (ap most_in e)
  told (cells.Pair a b) (cells.Pair c d) p q e =
      let x : Twins = record { left = type_at types a; right = type_at types b } in
      let y : Twins = record { left = type_at types c; right = type_at types d } in
      let h = kind_parts x y e in
      to_both (a == c) (b == d) (eq-eqb a c (same_at a c p.0 q.0 (ap (λ t. t.left) h))) (eq-eqb b d (same_at b d p.1 q.1 (ap (λ t. t.right) h)))
  told _ _ p q e = absurd (cc)
