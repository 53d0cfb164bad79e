-- When two types are the same.
use Rattle.std.proofs.Common.{arith, ◌≡◌, ℤ, true, refl, ◌≤ℤ◌}
use Rattle.std.proofs.lemmas.Bool.{eq-eqb}
use Rattle.std.specs.Int.Signed.{le_z}
use Rattle.std.proofs.lemmas.Int.{ints}
use denote.Hole.Carrier.{hidden}
use Rattle.reo_values.specs.declared.kindred.Kindred as kindred
use Rattle.reo_values.specs.declared.kindred.Kindred.{Kindred}
use Rattle.reo_values.specs.declared.kindred.Kindred.TheBlock.{hidden-the_row-Twins-0}
use Rattle.reo_values.proofs.Tests.{le_z-is}
use Rattle.reo_exprs.proofs.JoinCases.{names_decide}
use Rattle.reo_exprs.proofs.Options.{to_both}
use Rattle.reo_rules.specs.Types.{int_eq, is_same}

int_same : (a : ℤ) → int_eq a a ≡ true
int_same a = let p : a ≤ℤ a = omega (arith, ints) in to_both (le_z a a) (le_z a a) ((le_z-is a a).1 p) ((le_z-is a a).1 p)

-- And it finds equal ones the same.
pub same_self : (t : Kindred) → is_same t t ≡ true
unfolding hidden-the_row-Twins-0 hidden
same_self kindred.Unit = refl
same_self kindred.Bool = refl
same_self (kindred.Int a b) = to_both (int_eq a a) (int_eq b b) (int_same a) (int_same b)
same_self (kindred.Sym xs) = (names_decide xs xs).1 refl
same_self (kindred.Text m) = eq-eqb m m refl
same_self (kindred.Pair' m (kindred.more_of-Twins a b kindred.end_of-Twins)) = to_both (is_same a a) (is_same b b) (same_self a) (same_self b)
