-- Expressions that texts say.
use denote.Hole.Carrier.{hidden}
use Rattle.std.proofs.Common.{arith, ℕ, ◌≤◌, ◌≤ℤ◌, pos}
use Rattle.std.proofs.lemmas.Int.{ints}
use Rattle.reo_values.specs.declared.operator.Unary.{Unary}
use Rattle.reo_values.specs.declared.operator.Binary.{Binary}
use Rattle.reo_values.specs.declared.operator.Binary.TheVariants as binaries
use Rattle.reo_trees.specs.declared.terms.Term.{Term}
use Rattle.reo_trees.specs.declared.terms.TermForm.TheVariants as terms
use Rattle.reo_trees.specs.declared.terms.TermForm.TheBlock.{hidden-the_row-Term-0, hidden-the_row-TermPair-1, hidden-the_row-TermTriple-2}
use Rattle.reo_trees.specs.declared.terms.TermPair.{TermPair}
use Rattle.reo_trees.specs.declared.terms.TermTriple.{TermTriple}
use Rattle.reo_trees.specs.declared.terms.Opened.{Opened}
use Rattle.reo_trees.specs.Literals.{greatest}
use Rattle.reo_trees.specs.Operators.{Further}
use Rattle.reo_trees.specs.Terms.{symbol_form, call_form, if_form, simple_form, group_end, group_form, atom_form, prefixed_form, unary_form, further_product, product_form, further_sum, sum_form, compared_with, comparison_form, further_and, and_form, further_or, or_form, term_form}
use Rattle.reo_syntax_laws.proofs.Seen.{World, see-then}
use Rattle.reo_syntax_laws.specs.trees_laws.Spelled.{IsFreeName, IsSpelledTerm}
use Rattle.reo_syntax_laws.proofs.trees_laws.Has.{Each, world, Has, any, has-both, has-left, has-right, has-made, has-lined, has-either, has-nothing, has-chain, has-word-as, has-name, has-text, has-number, has-term, has-unary}

one-spelled : (u : Unary) (x : Term) → IsSpelledTerm x.form → IsSpelledTerm (terms.One u x)
unfolding hidden-the_row-Term-0 hidden
one-spelled u x a = a

two-spelled : (o : Binary) (p : TermPair) → IsSpelledTerm p.left.form → IsSpelledTerm p.right.form → IsSpelledTerm (terms.Two o p)
unfolding hidden-the_row-TermPair-1 hidden
two-spelled o p a b = (a, b)

if-spelled : (p : TermTriple) → IsSpelledTerm p.condition.form → IsSpelledTerm p.yes.form → IsSpelledTerm p.no.form → IsSpelledTerm (terms.If p)
unfolding hidden-the_row-TermTriple-2 hidden
if-spelled p a b c = (a, b, c)

number-spelled : (n : ℕ) → n ≤ greatest → (pos 0 ≤ℤ pos n) × (pos n ≤ℤ pos greatest)
number-spelled n h = (omega (arith, ints), omega (arith, ints))

-- A term, an operand, and an operator with its right operand.
abbrev T : Term → Type 0
T x = IsSpelledTerm x.form

abbrev O : Opened → Type 0
O x = IsSpelledTerm x.term.form

abbrev R : Further → Type 0
R x = IsSpelledTerm x.right.term.form

module _ (k : ℕ) (each : Each k) where
  abbrev w : World
  w = world k each

  has-symbol : Has w symbol_form IsSpelledTerm
  has-symbol = has-both IsFreeName IsFreeName IsSpelledTerm (has-left IsFreeName has-name) has-name (λ x y p q. (p, q))

  has-call : Has w call_form IsSpelledTerm
  has-call = has-both (λ u. Unit {0}) T IsSpelledTerm any (has-right T (has-left T (has-term k each))) (λ u x p q. one-spelled u x q)

  has-if : Has w if_form IsSpelledTerm
  has-if = has-right IsSpelledTerm (has-right IsSpelledTerm
      (has-both T (λ f. (c : Term) → T c → IsSpelledTerm (f c)) IsSpelledTerm (has-left T (has-term k each))
      (has-both T T (λ f. (c : Term) → T c → IsSpelledTerm (f c)) (has-left T (has-term k each)) (has-left T (has-term k each)) (λ x y p q c r. if-spelled (record { condition = c; yes = x; no = y }) r p q))
      (λ c f p q. q c p)))

  has-simple : Has w simple_form IsSpelledTerm
  has-simple =
      has-either IsSpelledTerm (has-word-as IsSpelledTerm tt)
      (has-either IsSpelledTerm (has-word-as IsSpelledTerm tt)
      (has-either IsSpelledTerm (has-word-as IsSpelledTerm tt)
      (has-either IsSpelledTerm (has-word-as IsSpelledTerm tt)
      (has-either IsSpelledTerm (has-made IsSpelledTerm (see-then (has-number 0 greatest) (λ ts n h. number-spelled n h.1)))
      (has-either IsSpelledTerm (has-made IsSpelledTerm has-text)
      (has-either IsSpelledTerm has-symbol
      (has-either IsSpelledTerm has-call has-if)))))))

  -- What makes an operand of a term.
  abbrev G : (Term → ℕ → Opened) → Type 0
  G f = (x : Term) (l : ℕ) → T x → O (f x l)

  has-group-end : Has w group_end G
  has-group-end = has-either G
      (has-made G (see-then (has-right T (has-left T (has-term k each))) (λ ts y q x l p. two-spelled binaries.Pair (record { left = x; right = y }) p q)))
      (has-made G (see-then any (λ ts u q x l p. p)))

  abbrev L : (ℕ → Opened) → Type 0
  L f = (l : ℕ) → O (f l)

  has-group : Has w group_form O
  has-group = has-lined L O (has-right L (has-both T G L (has-term k each) has-group-end (λ x f p q l. q x l p))) (λ l f p. p l)

  has-atom : Has w atom_form O
  has-atom = has-either O has-group (has-lined IsSpelledTerm O has-simple (λ l f p. p))

  has-prefixed : Has w prefixed_form O
  has-prefixed = has-lined L O (has-both (λ u. Unit {0}) O L any (has-unary k each) (λ u x p q l. one-spelled u x.term q)) (λ l f p. p l)

  pub has-unary-form : Has w unary_form O
  has-unary-form = has-either O has-prefixed has-atom

  has-further-product : Has w further_product R
  has-further-product = has-both (λ o. Unit {0}) O R any has-unary-form (λ o x p q. q)

  joined-spelled : (x : Opened) (y : Further) → O x → R y → O (Rattle.reo_trees.specs.Operators.joined x y)
  joined-spelled x y p q = two-spelled y.operator (record { left = x.term; right = y.right.term }) p q

  has-product : Has w product_form O
  has-product = has-chain O R has-unary-form has-further-product joined-spelled

  has-further-sum : Has w further_sum R
  has-further-sum = has-both (λ o. Unit {0}) O R any has-product (λ o x p q. q)

  has-sum : Has w sum_form O
  has-sum = has-chain O R has-product has-further-sum joined-spelled

  abbrev M : (Opened → Opened) → Type 0
  M f = (x : Opened) → O x → O (f x)

  has-compared : Has w compared_with M
  has-compared = has-both (λ o. Unit {0}) O M any has-sum (λ o y p q x r. joined-spelled x (record { operator = o; right = y }) r q)

  has-comparison : Has w comparison_form O
  has-comparison = has-both O M O has-sum (has-either M has-compared (has-nothing M (λ x p. p))) (λ x f p q. q x p)

  has-further-and : Has w further_and R
  has-further-and = has-made R (see-then (has-right O has-comparison) (λ ts x p. p))

  has-and : Has w and_form O
  has-and = has-chain O R has-comparison has-further-and joined-spelled

  has-further-or : Has w further_or R
  has-further-or = has-made R (see-then (has-right O has-and) (λ ts x p. p))

  has-or : Has w or_form O
  has-or = has-chain O R has-and has-further-or joined-spelled

  pub has-term-form : Has w term_form T
  has-term-form = has-made T (see-then has-or (λ ts x p. p))
