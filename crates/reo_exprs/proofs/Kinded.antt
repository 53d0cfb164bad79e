-- Types join exactly where their kinds are equal.
use Rattle.std.proofs.Common.{ℕ, true, ◌≡◌, List, [], ◌∙◌, ap, sym, refl}
use Rattle.std.specs.Prelude.{◌↔◌, IsTrue, bytes_eq}
use Rattle.std.specs.Cmp.Lexicographic.{pointwise}
use denote.Hole.Carrier.{hidden}
use Rattle.reo_values.specs.declared.kindred.Kindred as kindred
use Rattle.reo_values.specs.declared.kindred.Kindred.{Kindred}
use Rattle.reo_values.specs.declared.kindred.Kindred.TheVariants as kinds
use Rattle.reo_values.specs.declared.kindred.Kindred.TheBlock.{hidden-the_row-Twins-0}
use Rattle.reo_exprs.specs.Kinds.{kind_of, joins}
use Rattle.reo_exprs.proofs.JoinCases.{names_decide, where_joined}
use Rattle.reo_exprs.proofs.Options.{to_both}
use Rattle.reo_exprs.proofs.Steps.{kind_parts}
use Rattle.reo_exprs.proofs.Twinned.{Twins_of-equal}

-- the names of a type of names, and none of another
abbrev names_of : Kindred → List (List ℕ)
names_of (kindred.Sym names) = names
names_of k = []

-- types that join have the same kind
joined_kinds : (s t : Kindred) → joins s t ≡ true → kind_of s ≡ kind_of t
unfolding hidden-the_row-Twins-0 hidden
joined_kinds s t e =
    where_joined (λ a b. kind_of a ≡ kind_of b) (record {
      units = refl;
      truths = refl;
      numbers = λ a b c d. refl;
      names = λ xs ys p. ap kinds.Sym p;
      texts = λ m n. refl;
      pairs = λ x y l r. Twins_of-equal (record { left = kind_of x.left; right = kind_of x.right }) (record { left = kind_of y.left; right = kind_of y.right }) l r;
    }) s t e

-- types of the same kind join
same_kinds : (s t : Kindred) → kind_of s ≡ kind_of t → joins s t ≡ true
unfolding hidden-the_row-Twins-0 hidden
same_kinds kindred.Unit kindred.Unit e = refl
same_kinds kindred.Unit kindred.Bool e = absurd (cc)
same_kinds kindred.Unit (kindred.Int c d) e = absurd (cc)
same_kinds kindred.Unit (kindred.Sym names2) e = absurd (cc)
same_kinds kindred.Unit (kindred.Text most2) e = absurd (cc)
same_kinds kindred.Unit (kindred.Pair' j (kindred.more_of-Twins c d kindred.end_of-Twins)) e = absurd (cc)
same_kinds kindred.Bool kindred.Unit e = absurd (cc)
same_kinds kindred.Bool kindred.Bool e = refl
same_kinds kindred.Bool (kindred.Int c d) e = absurd (cc)
same_kinds kindred.Bool (kindred.Sym names2) e = absurd (cc)
same_kinds kindred.Bool (kindred.Text most2) e = absurd (cc)
same_kinds kindred.Bool (kindred.Pair' j (kindred.more_of-Twins c d kindred.end_of-Twins)) e = absurd (cc)
same_kinds (kindred.Int a b) kindred.Unit e = absurd (cc)
same_kinds (kindred.Int a b) kindred.Bool e = absurd (cc)
same_kinds (kindred.Int a b) (kindred.Int c d) e = refl
same_kinds (kindred.Int a b) (kindred.Sym names2) e = absurd (cc)
same_kinds (kindred.Int a b) (kindred.Text most2) e = absurd (cc)
same_kinds (kindred.Int a b) (kindred.Pair' j (kindred.more_of-Twins c d kindred.end_of-Twins)) e = absurd (cc)
same_kinds (kindred.Sym names) kindred.Unit e = absurd (cc)
same_kinds (kindred.Sym names) kindred.Bool e = absurd (cc)
same_kinds (kindred.Sym names) (kindred.Int c d) e = absurd (cc)
same_kinds (kindred.Sym names) (kindred.Sym names2) e = ap (λ o. pointwise bytes_eq names o) (sym (ap names_of e)) ∙ (names_decide names names).1 refl
same_kinds (kindred.Sym names) (kindred.Text most2) e = absurd (cc)
same_kinds (kindred.Sym names) (kindred.Pair' j (kindred.more_of-Twins c d kindred.end_of-Twins)) e = absurd (cc)
same_kinds (kindred.Text most) kindred.Unit e = absurd (cc)
same_kinds (kindred.Text most) kindred.Bool e = absurd (cc)
same_kinds (kindred.Text most) (kindred.Int c d) e = absurd (cc)
same_kinds (kindred.Text most) (kindred.Sym names2) e = absurd (cc)
same_kinds (kindred.Text most) (kindred.Text most2) e = refl
same_kinds (kindred.Text most) (kindred.Pair' j (kindred.more_of-Twins c d kindred.end_of-Twins)) e = absurd (cc)
same_kinds (kindred.Pair' n (kindred.more_of-Twins a b kindred.end_of-Twins)) kindred.Unit e = absurd (cc)
same_kinds (kindred.Pair' n (kindred.more_of-Twins a b kindred.end_of-Twins)) kindred.Bool e = absurd (cc)
same_kinds (kindred.Pair' n (kindred.more_of-Twins a b kindred.end_of-Twins)) (kindred.Int c d) e = absurd (cc)
same_kinds (kindred.Pair' n (kindred.more_of-Twins a b kindred.end_of-Twins)) (kindred.Sym names2) e = absurd (cc)
same_kinds (kindred.Pair' n (kindred.more_of-Twins a b kindred.end_of-Twins)) (kindred.Text most2) e = absurd (cc)
same_kinds (kindred.Pair' n (kindred.more_of-Twins a b kindred.end_of-Twins)) (kindred.Pair' j (kindred.more_of-Twins c d kindred.end_of-Twins)) e = let h = kind_parts (record { left = kind_of a; right = kind_of b }) (record { left = kind_of c; right = kind_of d }) e in to_both (joins a c) (joins b d) (same_kinds a c (ap (λ t. t.left) h)) (same_kinds b d (ap (λ t. t.right) h))

-- both ways
pub join_by_kind : (s t : Kindred) → IsTrue (joins s t) ↔ (kind_of s ≡ kind_of t)
join_by_kind s t = (joined_kinds s t, same_kinds s t)
