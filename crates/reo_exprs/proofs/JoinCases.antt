-- What holds of any two types that join, by the six cases in which types join.
use Rattle.std.proofs.Common.{ℕ, ℤ, true, ◌≡◌, List, refl, arith}
use Rattle.std.proofs.lemmas.Bool.{and_parts}
use Rattle.std.specs.Bool.{Decides}
use Rattle.std.specs.Prelude.{bytes_eq}
use Rattle.std.specs.Cmp.Lexicographic.{pointwise}
use Rattle.std.proofs.lemmas.Slice.Eq.{bytes_eq-Decides, slice_eq-Decides}
use denote.Hole.Carrier.{hidden}
use Rattle.reo_values.specs.declared.kindred.Kindred as kindred
use Rattle.reo_values.specs.declared.kindred.Kindred.{Kindred}
use Rattle.reo_values.specs.declared.kindred.Kindred.TheVariants as kinds
use Rattle.reo_values.specs.declared.kindred.Kindred.TheBlock.{hidden-the_row-Twins-0}
use Rattle.reo_values.specs.declared.kindred.Twins.{Twins}
use Rattle.reo_exprs.specs.Kinds.{joins}

-- the test of two lists of names decides whether they are the same
pub names_decide : (xs ys : List (List ℕ)) → Decides (pointwise bytes_eq xs ys) (xs ≡ ys)
names_decide xs ys = slice_eq-Decides bytes_eq-Decides xs ys (pointwise bytes_eq xs ys) refl

-- P holds of two types in each case in which they join; of pairs, where it holds of their parts
pub record HoldsWhereJoined (P : Kindred → Kindred → Type 0) : Type 0 where
  pub units : P kinds.Unit kinds.Unit
  pub truths : P kinds.Bool kinds.Bool
  pub numbers : (a b c d : ℤ) → P (kinds.Int a b) (kinds.Int c d)
  pub names : (xs ys : List (List ℕ)) → xs ≡ ys → P (kinds.Sym xs) (kinds.Sym ys)
  pub texts : (m n : ℕ) → P (kinds.Text m) (kinds.Text n)
  pub pairs : (x y : Twins) → P x.left y.left → P x.right y.right → P (kinds.Pair x) (kinds.Pair y)

-- then it holds of any two types that join
pub where_joined : (P : Kindred → Kindred → Type 0) → HoldsWhereJoined P → (s t : Kindred) → joins s t ≡ true → P s t
unfolding hidden-the_row-Twins-0 hidden
where_joined P h kindred.Unit kindred.Unit e = h.units
where_joined P h kindred.Unit kindred.Bool e = absurd (cc)
where_joined P h kindred.Unit (kindred.Int c d) e = absurd (cc)
where_joined P h kindred.Unit (kindred.Sym ys) e = absurd (cc)
where_joined P h kindred.Unit (kindred.Text n) e = absurd (cc)
where_joined P h kindred.Unit (kindred.Pair' j (kindred.more_of-Twins c d kindred.end_of-Twins)) e = absurd (cc)
where_joined P h kindred.Bool kindred.Unit e = absurd (cc)
where_joined P h kindred.Bool kindred.Bool e = h.truths
where_joined P h kindred.Bool (kindred.Int c d) e = absurd (cc)
where_joined P h kindred.Bool (kindred.Sym ys) e = absurd (cc)
where_joined P h kindred.Bool (kindred.Text n) e = absurd (cc)
where_joined P h kindred.Bool (kindred.Pair' j (kindred.more_of-Twins c d kindred.end_of-Twins)) e = absurd (cc)
where_joined P h (kindred.Int a b) kindred.Unit e = absurd (cc)
where_joined P h (kindred.Int a b) kindred.Bool e = absurd (cc)
where_joined P h (kindred.Int a b) (kindred.Int c d) e = h.numbers a b c d
where_joined P h (kindred.Int a b) (kindred.Sym ys) e = absurd (cc)
where_joined P h (kindred.Int a b) (kindred.Text n) e = absurd (cc)
where_joined P h (kindred.Int a b) (kindred.Pair' j (kindred.more_of-Twins c d kindred.end_of-Twins)) e = absurd (cc)
where_joined P h (kindred.Sym xs) kindred.Unit e = absurd (cc)
where_joined P h (kindred.Sym xs) kindred.Bool e = absurd (cc)
where_joined P h (kindred.Sym xs) (kindred.Int c d) e = absurd (cc)
where_joined P h (kindred.Sym xs) (kindred.Sym ys) e = h.names xs ys ((names_decide xs ys).0 e)
where_joined P h (kindred.Sym xs) (kindred.Text n) e = absurd (cc)
where_joined P h (kindred.Sym xs) (kindred.Pair' j (kindred.more_of-Twins c d kindred.end_of-Twins)) e = absurd (cc)
where_joined P h (kindred.Text m) kindred.Unit e = absurd (cc)
where_joined P h (kindred.Text m) kindred.Bool e = absurd (cc)
where_joined P h (kindred.Text m) (kindred.Int c d) e = absurd (cc)
where_joined P h (kindred.Text m) (kindred.Sym ys) e = absurd (cc)
where_joined P h (kindred.Text m) (kindred.Text n) e = h.texts m n
where_joined P h (kindred.Text m) (kindred.Pair' j (kindred.more_of-Twins c d kindred.end_of-Twins)) e = absurd (cc)
where_joined P h (kindred.Pair' i (kindred.more_of-Twins a b kindred.end_of-Twins)) kindred.Unit e = absurd (cc)
where_joined P h (kindred.Pair' i (kindred.more_of-Twins a b kindred.end_of-Twins)) kindred.Bool e = absurd (cc)
where_joined P h (kindred.Pair' i (kindred.more_of-Twins a b kindred.end_of-Twins)) (kindred.Int c d) e = absurd (cc)
where_joined P h (kindred.Pair' i (kindred.more_of-Twins a b kindred.end_of-Twins)) (kindred.Sym ys) e = absurd (cc)
where_joined P h (kindred.Pair' i (kindred.more_of-Twins a b kindred.end_of-Twins)) (kindred.Text n) e = absurd (cc)
where_joined P h (kindred.Pair' i (kindred.more_of-Twins a b kindred.end_of-Twins)) (kindred.Pair' j (kindred.more_of-Twins c d kindred.end_of-Twins)) e =
    let g = and_parts (joins a c) (joins b d) e in
    h.pairs (record { left = a; right = b }) (record { left = c; right = d }) (where_joined P h a c g.0) (where_joined P h b d g.1)
