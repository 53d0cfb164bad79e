-- Types that texts say.
use denote.Hole.Carrier.{hidden}
use Rattle.std.proofs.Common.{arith, ℕ, pos, neg_ℤ, ◌≤◌}
use Rattle.std.specs.List.{All}
use Rattle.std.proofs.lemmas.Int.{ints}
use Rattle.reo_trees.specs.declared.types.Shape.TheVariants as shapes
use Rattle.reo_trees.specs.declared.types.Shape.TheBlock.{hidden-the_row-TypePair-0}
use Rattle.reo_trees.specs.declared.types.TypePair.{TypePair}
use Rattle.reo_trees.specs.declared.types.TypeTerm.{TypeTerm}
use Rattle.reo_trees.specs.Types.{bound_form, int_form, names_form, sym_form, text_type_form, pair_form, shape_form, type_form}
use Rattle.reo_syntax_laws.specs.trees_laws.Spelled.{IsFreeName, LiesNear, IsSpelledShape}
use Rattle.reo_syntax_laws.proofs.trees_laws.Has.{Each, world, Has, Lies, has-both, has-left, has-right, has-made, has-lined, has-either, has-word-as, has-name, has-number, has-comma, has-type}
use Rattle.reo_syntax_laws.proofs.Seen.{World, see-then}

-- A number, with a `-` before it or without.
pub near-pos : (most n : ℕ) → n ≤ most → LiesNear most (pos n)
near-pos most n h = (omega (arith, ints), omega (arith, ints))

pub near-neg : (most n : ℕ) → n ≤ most → LiesNear most (neg_ℤ (pos n))
near-neg most n h = (omega (arith, ints), omega (arith, ints))

pair-spelled : (p : TypePair) → IsSpelledShape p.left.shape → IsSpelledShape p.right.shape → IsSpelledShape (shapes.Pair p)
unfolding hidden-the_row-TypePair-0 hidden
pair-spelled p a b = (a, b)

abbrev T : TypeTerm → Type 0
T x = IsSpelledShape x.shape

module _ (k : ℕ) (each : Each k) where
  abbrev w : World
  w = world k each

  has-bound : Has w bound_form (LiesNear 1000000000)
  has-bound = has-either (LiesNear 1000000000)
      (has-made (LiesNear 1000000000) (see-then (has-right (Lies 0 1000000000) (has-number 0 1000000000)) (λ ts n h. near-neg 1000000000 n h.1)))
      (has-made (LiesNear 1000000000) (see-then (has-number 0 1000000000) (λ ts n h. near-pos 1000000000 n h.1)))

  has-int : Has w int_form IsSpelledShape
  has-int = has-right IsSpelledShape (has-both (LiesNear 1000000000) (LiesNear 1000000000) IsSpelledShape (has-left (LiesNear 1000000000) has-bound) has-bound (λ x y p q. (p, q)))

  pub has-names : Has w names_form (All IsFreeName)
  has-names = has-comma IsFreeName has-name

  has-sym : Has w sym_form IsSpelledShape
  has-sym = has-right IsSpelledShape (has-right IsSpelledShape (has-left IsSpelledShape (has-made IsSpelledShape has-names)))

  has-text-type : Has w text_type_form IsSpelledShape
  has-text-type = has-right IsSpelledShape (has-made IsSpelledShape (see-then (has-number 0 1024) (λ ts n h. h.1)))

  has-pair : Has w pair_form IsSpelledShape
  has-pair = has-right IsSpelledShape (has-right IsSpelledShape (has-both T T IsSpelledShape (has-left T (has-type k each)) (has-left T (has-type k each)) (λ x y p q. pair-spelled (record { left = x; right = y }) p q)))

  has-shape : Has w shape_form IsSpelledShape
  has-shape =
      has-either IsSpelledShape (has-word-as IsSpelledShape tt)
      (has-either IsSpelledShape (has-word-as IsSpelledShape tt)
      (has-either IsSpelledShape has-int
      (has-either IsSpelledShape has-sym
      (has-either IsSpelledShape has-text-type
      (has-either IsSpelledShape has-pair (has-made IsSpelledShape has-name))))))

  pub has-type-form : Has w type_form T
  has-type-form = has-lined IsSpelledShape T has-shape (λ l x p. p)
