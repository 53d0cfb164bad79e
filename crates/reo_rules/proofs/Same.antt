-- When two types are the same, and when one lies inside another.
use Rattle.std.proofs.Common.{arith, ◌≡◌, ◌∙◌, ℤ, Bool, true, refl, ap, bytes_eq, ◌≤ℤ◌}
use Rattle.std.proofs.lemmas.Bool.{and_parts, eqb-true}
use Rattle.std.specs.Bool.{Decides}
use Rattle.std.specs.Cmp.Lexicographic.{pointwise}
use Rattle.std.specs.Int.Signed.{le_z}
use Rattle.std.proofs.lemmas.Bool.Decides.{nat_tests}
use Rattle.std.proofs.lemmas.Int.{ints}
use denote.Hole.Carrier.{hidden}
use Rattle.reo_values.specs.declared.kindred.Kindred as kindred
use Rattle.reo_values.specs.declared.kindred.Kindred.{Kindred}
use Rattle.reo_values.specs.declared.kindred.Kindred.TheVariants as kinds
use Rattle.reo_values.specs.declared.kindred.Kindred.TheBlock.{hidden-the_row-Twins-0}
use Rattle.reo_values.proofs.Tests.{le_z-is}
use Rattle.reo_values.proofs.Truths.{both_decided}
use Rattle.reo_exprs.specs.Kinds.{LiesInside}
use Rattle.reo_exprs.proofs.JoinCases.{names_decide}
use Rattle.reo_exprs.proofs.Twinned.{Twins_of-equal}
use Rattle.reo_rules.specs.Types.{int_eq, is_same}
use Rattle.reo_rules.specs.Ranges.{is_inside}

same_number : (a c : ℤ) → int_eq a c ≡ true → a ≡ c
same_number a c e =
    let h = and_parts (le_z a c) (le_z c a) e in
    let p : a ≤ℤ c = (le_z-is a c).0 h.0 in
    let q : c ≤ℤ a = (le_z-is c a).0 h.1 in
    omega (arith, ints)

-- Types that the test finds the same are equal.
pub same_types : (s t : Kindred) → is_same s t ≡ true → s ≡ t
unfolding hidden-the_row-Twins-0 hidden
same_types kindred.Unit kindred.Unit e = refl
same_types kindred.Bool kindred.Bool e = refl
same_types (kindred.Int a b) (kindred.Int c d) e =
    let h = and_parts (int_eq a c) (int_eq b d) e in
    λ i. kinds.Int (same_number a c h.0 i) (same_number b d h.1 i)
same_types (kindred.Sym xs) (kindred.Sym ys) e = ap kinds.Sym ((names_decide xs ys).0 e)
same_types (kindred.Text m) (kindred.Text n) e = ap kinds.Text (eqb-true m n e)
same_types (kindred.Pair' m (kindred.more_of-Twins a b kindred.end_of-Twins)) (kindred.Pair' n (kindred.more_of-Twins c d kindred.end_of-Twins)) e =
    let h = and_parts (is_same a c) (is_same b d) e in
    Twins_of-equal (record { left = a; right = b }) (record { left = c; right = d }) (same_types a c h.0) (same_types b d h.1)
same_types _ _ e = absurd (cc)

-- The test finds what lies inside, and nothing else.
pub inside_told : (s t : Kindred) → Decides (is_inside s t) (LiesInside s t)
unfolding hidden-the_row-Twins-0 hidden
inside_told kindred.Unit kindred.Unit = (λ h. tt, λ h. refl)
inside_told kindred.Bool kindred.Bool = (λ h. tt, λ h. refl)
inside_told (kindred.Int a b) (kindred.Int c d) = both_decided (le_z c a) (le_z b d) (c ≤ℤ a) (b ≤ℤ d) (le_z-is c a) (le_z-is b d)
inside_told (kindred.Sym xs) (kindred.Sym ys) = ((names_decide xs ys).0, λ h. ap (λ ns. pointwise bytes_eq ns ys) h ∙ (names_decide ys ys).1 refl)
inside_told (kindred.Text m) (kindred.Text n) = (λ h. grind (arith, nat_tests), λ h. grind (arith, nat_tests))
inside_told (kindred.Pair' m (kindred.more_of-Twins a b kindred.end_of-Twins)) (kindred.Pair' n (kindred.more_of-Twins c d kindred.end_of-Twins)) =
    both_decided (is_inside a c) (is_inside b d) (LiesInside a c) (LiesInside b d) (inside_told a c) (inside_told b d)
inside_told _ _ = (λ h. absurd (cc), λ h. absurd h)
