-- Literals that texts say.
use denote.Hole.Carrier.{hidden}
use Rattle.std.proofs.Common.{ℕ}
use Rattle.reo_trees.specs.declared.literals.Constant.TheVariants as constants
use Rattle.reo_trees.specs.declared.literals.Constant.TheBlock.{hidden-the_row-LiteralPair-0}
use Rattle.reo_trees.specs.declared.literals.LiteralPair.{LiteralPair}
use Rattle.reo_trees.specs.Literals.{greatest, minus_form, literal_pair_form, constant_form, literal_form}
use Rattle.reo_syntax_laws.proofs.Seen.{World, see-then}
use Rattle.reo_syntax_laws.specs.trees_laws.Spelled.{IsSpelledConstant, IsSpelledLiteral}
use Rattle.reo_syntax_laws.proofs.trees_laws.Has.{Each, world, Has, has-both, has-left, has-right, has-made, has-lined, has-either, has-word-as, has-name, has-text, has-number, has-literal}
use Rattle.reo_syntax_laws.proofs.trees_laws.Types.{near-pos, near-neg}

pair-spelled : (p : LiteralPair) → IsSpelledLiteral p.left → IsSpelledLiteral p.right → IsSpelledConstant (constants.Pair p)
unfolding hidden-the_row-LiteralPair-0 hidden
pair-spelled p a b = (a, b)

module _ (k : ℕ) (each : Each k) where
  abbrev w : World
  w = world k each

  has-minus : Has w minus_form IsSpelledConstant
  has-minus = has-right IsSpelledConstant (has-made IsSpelledConstant (see-then (has-number 0 greatest) (λ ts n h. near-neg greatest n h.1)))

  has-pair : Has w literal_pair_form IsSpelledConstant
  has-pair = has-right IsSpelledConstant (has-both IsSpelledLiteral IsSpelledLiteral IsSpelledConstant (has-left IsSpelledLiteral (has-literal k each)) (has-left IsSpelledLiteral (has-literal k each)) (λ x y p q. pair-spelled (record { left = x; right = y }) p q))

  has-constant : Has w constant_form IsSpelledConstant
  has-constant =
      has-either IsSpelledConstant (has-word-as IsSpelledConstant tt)
      (has-either IsSpelledConstant (has-word-as IsSpelledConstant tt)
      (has-either IsSpelledConstant (has-word-as IsSpelledConstant tt)
      (has-either IsSpelledConstant has-minus
      (has-either IsSpelledConstant (has-made IsSpelledConstant (see-then (has-number 0 greatest) (λ ts n h. near-pos greatest n h.1)))
      (has-either IsSpelledConstant (has-made IsSpelledConstant has-text)
      (has-either IsSpelledConstant has-pair (has-made IsSpelledConstant has-name)))))))

  pub has-literal-form : Has w literal_form IsSpelledLiteral
  has-literal-form = has-lined IsSpelledConstant IsSpelledLiteral has-constant (λ l x p. p)
