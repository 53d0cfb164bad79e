-- The texts of expressions by their parts.
use Rattle.std.proofs.Common.{◌≡◌, ℕ, Bool, true, false, List, ◌++◌, refl, codes}
use denote.Hole.Carrier.{hidden}
use Rattle.reo_values.specs.declared.operator.Unary.{Unary}
use Rattle.reo_values.specs.declared.operator.Binary.{Binary}
use Rattle.reo_values.specs.declared.operator.Binary.TheVariants as binaries
use Rattle.reo_values.specs.declared.value.Value.TheVariants as values
use Rattle.reo_values.specs.declared.value.Value.TheBlock.{hidden-the_row-Couple-0}
use Rattle.reo_values.specs.declared.value.Couple.{Couple}
use Rattle.reo_exprs.specs.declared.expr.Expr.TheVariants as exprs
use Rattle.reo_exprs.specs.declared.expr.Expr.TheBlock.{hidden-the_row-Expr-0, hidden-the_row-ExprPair-1, hidden-the_row-ExprTriple-2}
use Rattle.reo_exprs.specs.declared.expr.Expr.{Expr}
use Rattle.reo_exprs.specs.declared.expr.ExprPair.{ExprPair}
use Rattle.reo_exprs.specs.declared.expr.ExprTriple.{ExprTriple}
use Rattle.reo_drawing.specs.label_texts.Items.{item_text}
use Rattle.reo_drawing.specs.label_texts.Exprs.{form_text, applied_text, joined_text, infix_text}

pub form-one : (n : Bool) (u : Unary) (x : Expr) → form_text n (exprs.One u x) ≡ applied_text n u (λ i. form_text i x)
unfolding hidden-the_row-Expr-0 hidden
form-one n u x = refl

pub form-two : (n : Bool) (o : Binary) (p : ExprPair) → form_text n (exprs.Two o p) ≡ joined_text n o (λ i. form_text i p.left) (λ i. form_text i p.right)
unfolding hidden-the_row-ExprPair-1 hidden
form-two n o p = refl

pub form-if : (n : Bool) (p : ExprTriple) → form_text n (exprs.If p)
    ≡ codes "if(" ++ (form_text false p.condition ++ (codes ", " ++ (form_text false p.yes ++ (codes ", " ++ (form_text false p.no ++ codes ")")))))
unfolding hidden-the_row-ExprTriple-2 hidden
form-if n p = refl

-- No operator but that of pairs is a pair's.
pub joined-infix : (n : Bool) (o : Binary) (x y : Bool → List ℕ) → (o ≡ binaries.Pair → ⊥) → joined_text n o x y ≡ infix_text n o (x true) (y true)
joined-infix n binaries.Or x y h = refl
joined-infix n binaries.And x y h = refl
joined-infix n binaries.Eq x y h = refl
joined-infix n binaries.Ne x y h = refl
joined-infix n binaries.Lt x y h = refl
joined-infix n binaries.Le x y h = refl
joined-infix n binaries.Gt x y h = refl
joined-infix n binaries.Ge x y h = refl
joined-infix n binaries.Add x y h = refl
joined-infix n binaries.Sub x y h = refl
joined-infix n binaries.Mul x y h = refl
joined-infix n binaries.Div x y h = refl
joined-infix n binaries.Rem x y h = refl
joined-infix n binaries.Pair x y h = absurd (h refl)

pub item-pair : (c : Couple) → item_text (values.Pair c) ≡ codes "(" ++ (item_text c.left ++ (codes "," ++ (item_text c.right ++ codes ")")))
unfolding hidden-the_row-Couple-0 hidden
item-pair c = refl
