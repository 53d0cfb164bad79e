-- How large written types and expressions are.
use Rattle.std.proofs.Common.{arith, ◌≡◌, ◌∙◌, ℕ, ◌+◌, ◌*◌, ◌<◌, refl, sym, ap}
use denote.Hole.Carrier.{hidden}
use Rattle.reo_values.specs.declared.operator.Unary.{Unary}
use Rattle.reo_values.specs.declared.operator.Binary.{Binary}
use Rattle.reo_trees.specs.declared.types.Shape as shape
use Rattle.reo_trees.specs.declared.types.Shape.{Shape}
use Rattle.reo_trees.specs.declared.types.Shape.TheVariants as shapes
use Rattle.reo_trees.specs.declared.types.Shape.TheBlock.{hidden-the_row-TypePair-0}
use Rattle.reo_trees.specs.declared.types.TypePair.{TypePair}
use Rattle.reo_trees.specs.declared.terms.TermForm as form
use Rattle.reo_trees.specs.declared.terms.TermForm.{TermForm}
use Rattle.reo_trees.specs.declared.terms.TermForm.TheVariants as forms
use Rattle.reo_trees.specs.declared.terms.TermForm.TheBlock.{hidden-the_row-Term-0, hidden-the_row-TermPair-1, hidden-the_row-TermTriple-2}
use Rattle.reo_trees.specs.declared.terms.Term.{Term}
use Rattle.reo_trees.specs.declared.terms.TermPair.{TermPair}
use Rattle.reo_trees.specs.declared.terms.TermTriple.{TermTriple}

abbrev pub shape_size : Shape → ℕ
shape_size (shape.Pair' m (shape.more_of-TypePair k x l y _)) = shape_size x + shape_size y + 1
shape_size s = 0

abbrev pub form_size : TermForm → ℕ
form_size (form.One' op m (form.more_of-Term k x _)) = form_size x + 1
form_size (form.Two' op m (form.more_of-TermPair k x l y _)) = form_size x + form_size y + 1
form_size (form.If' m (form.more_of-TermTriple k c l x i y _)) = form_size c + form_size x + form_size y + 1
form_size f = 0

size-Pair : (p : TypePair) → shape_size (shapes.Pair p) ≡ shape_size p.left.shape + shape_size p.right.shape + 1
unfolding hidden-the_row-TypePair-0 hidden
size-Pair p = refl

size-One : (op : Unary) (x : Term) → form_size (forms.One op x) ≡ form_size x.form + 1
unfolding hidden-the_row-Term-0 hidden
size-One op x = refl

size-Two : (op : Binary) (p : TermPair) → form_size (forms.Two op p) ≡ form_size p.left.form + form_size p.right.form + 1
unfolding hidden-the_row-TermPair-1 hidden
size-Two op p = refl

size-If : (p : TermTriple) → form_size (forms.If p) ≡ form_size p.condition.form + form_size p.yes.form + form_size p.no.form + 1
unfolding hidden-the_row-TermTriple-2 hidden
size-If p = refl

-- Parts are smaller.
pub pair_smaller : (s : Shape) (p : TypePair) (n : ℕ) → s ≡ shapes.Pair p → shape_size s ≡ n → (shape_size p.left.shape < n) × (shape_size p.right.shape < n)
pair_smaller s p n is e = let h = sym e ∙ ap shape_size is ∙ size-Pair p in (omega (arith, h), omega (arith, h))

pub one_smaller : (f : TermForm) (op : Unary) (x : Term) (n : ℕ) → f ≡ forms.One op x → form_size f ≡ n → form_size x.form < n
one_smaller f op x n is e = let h = sym e ∙ ap form_size is ∙ size-One op x in omega (arith, h)

pub two_smaller : (f : TermForm) (op : Binary) (p : TermPair) (n : ℕ) → f ≡ forms.Two op p → form_size f ≡ n → (form_size p.left.form < n) × (form_size p.right.form < n)
two_smaller f op p n is e = let h = sym e ∙ ap form_size is ∙ size-Two op p in (omega (arith, h), omega (arith, h))

pub if_smaller : (f : TermForm) (p : TermTriple) (n : ℕ) → f ≡ forms.If p → form_size f ≡ n → (form_size p.condition.form < n) × (form_size p.yes.form < n) × (form_size p.no.form < n)
if_smaller f p n is e = let h = sym e ∙ ap form_size is ∙ size-If p in (omega (arith, h), omega (arith, h), omega (arith, h))

-- The same where an expression counts twice, and two count together.
pub one_less : (f : TermForm) (op : Unary) (x : Term) (n : ℕ) → f ≡ forms.One op x → 2 * form_size f ≡ n → 2 * form_size x.form < n
one_less f op x n is e = let h = ap form_size is ∙ size-One op x in omega (arith, h)

pub two_less : (f : TermForm) (op : Binary) (p : TermPair) (n : ℕ) → f ≡ forms.Two op p → 2 * form_size f ≡ n → 2 * (form_size p.left.form + form_size p.right.form) + 1 < n
two_less f op p n is e = let h = ap form_size is ∙ size-Two op p in omega (arith, h)

pub if_less : (f : TermForm) (p : TermTriple) (n : ℕ) → f ≡ forms.If p → 2 * form_size f ≡ n → (2 * form_size p.condition.form < n) × (2 * (form_size p.yes.form + form_size p.no.form) + 1 < n)
if_less f p n is e = let h = ap form_size is ∙ size-If p in (omega (arith, h), omega (arith, h))
