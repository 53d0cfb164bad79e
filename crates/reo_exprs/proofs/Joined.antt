-- Types that lie inside others, and what a join contains.
use Rattle.std.proofs.Common.{ℕ, Bool, true, ◌≡◌, ◌∙◌, List, ap, sym, subst, refl, arith}
use Rattle.std.specs.Prelude.{◌↔◌, IsTrue, bytes_eq}
use Rattle.std.specs.Cmp.Lexicographic.{pointwise}
use Rattle.std.proofs.lemmas.Int.{ints, clamps}
use denote.Hole.Carrier.{hidden}
use Rattle.reo_values.specs.declared.kindred.Kindred.{Kindred}
use Rattle.reo_values.specs.declared.kindred.Kindred.TheVariants as kinds
use Rattle.reo_values.specs.declared.kindred.Kindred.TheBlock.{hidden-the_row-Twins-0}
use Rattle.reo_exprs.specs.Kinds.{joins, join_of, LiesInside}
use Rattle.reo_exprs.proofs.JoinCases.{names_decide, where_joined}

-- a join contains its left type
pub left_inside : (s t : Kindred) → joins s t ≡ true → LiesInside s (join_of s t)
unfolding hidden-the_row-Twins-0 hidden
left_inside s t e =
    where_joined (λ a b. LiesInside a (join_of a b)) (record {
      units = tt;
      truths = tt;
      numbers = λ a b c d. (omega (arith, ints, clamps), omega (arith, ints, clamps));
      names = λ xs ys p. refl;
      texts = λ m n. omega arith;
      pairs = λ x y l r. (l, r);
    }) s t e

-- a join contains its right type
pub right_inside : (s t : Kindred) → joins s t ≡ true → LiesInside t (join_of s t)
unfolding hidden-the_row-Twins-0 hidden
right_inside s t e =
    where_joined (λ a b. LiesInside b (join_of a b)) (record {
      units = tt;
      truths = tt;
      numbers = λ a b c d. (omega (arith, ints, clamps), omega (arith, ints, clamps));
      names = λ xs ys p. sym p;
      texts = λ m n. omega arith;
      pairs = λ x y l r. (l, r);
    }) s t e

-- types of names lie inside each other exactly where the names are the same
pub sym_inside : (a b : Kindred) (xs ys : List (List ℕ)) (r : Bool) → a ≡ kinds.Sym xs → b ≡ kinds.Sym ys → r ≡ pointwise bytes_eq xs ys → IsTrue r ↔ LiesInside a b
sym_inside a b xs ys r p q e = (
  λ h. subst (λ k. LiesInside k b) (sym p) (subst (λ k. LiesInside (kinds.Sym xs) k) (sym q) ((names_decide xs ys).0 (sym e ∙ h))),
  λ h. e ∙ ap (λ n. pointwise bytes_eq n ys) (subst (λ k. LiesInside (kinds.Sym xs) k) q (subst (λ k. LiesInside k b) p h)) ∙ (names_decide ys ys).1 refl,
)
