-- What definitions by cases say of the parts of an expression.
use Rattle.std.proofs.Common.{◌≡◌, ◌+◌, refl}
use Rattle.std.specs.Prelude.{option_and_then, if◌then◌else◌}
use denote.Hole.Carrier.{hidden}
use Rattle.reo_values.specs.declared.value.Value.{Value}
use Rattle.reo_values.specs.declared.kindred.Kindred.{Kindred}
use Rattle.reo_values.specs.declared.operator.Unary.{Unary}
use Rattle.reo_values.specs.declared.operator.Binary.{Binary}
use Rattle.reo_exprs.specs.declared.expr.Expr.{Expr}
use Rattle.reo_exprs.specs.declared.expr.Expr.TheVariants as exprs
use Rattle.reo_exprs.specs.declared.expr.Expr.TheBlock.{hidden-the_row-Expr-0, hidden-the_row-ExprPair-1, hidden-the_row-ExprTriple-2}
use Rattle.reo_exprs.specs.declared.expr.ExprPair.{ExprPair}
use Rattle.reo_exprs.specs.declared.expr.ExprTriple.{ExprTriple}
use Rattle.reo_exprs.specs.WellFormed.{IsWellFormed}
use Rattle.reo_exprs.specs.Typing.{kind_of_expr, type_of_expr, unary_kind, unary_within, binary_kind, binary_within, if_kind, if_within}
use Rattle.reo_exprs.specs.Valued.{truth, value_of_expr, unary_value, binary_value}
use Rattle.reo_exprs.specs.Views.{work}

-- the kind of an operator with one operand
pub kind-One : (op : Unary) (x : Expr) (of : Kindred) → kind_of_expr (exprs.One op x) of ≡ option_and_then (λ a. unary_kind op a) (kind_of_expr x of)
unfolding hidden-the_row-Expr-0 hidden
kind-One op x of = refl

-- of one with two
pub kind-Two : (op : Binary) (p : ExprPair) (of : Kindred) → kind_of_expr (exprs.Two op p) of ≡ option_and_then (λ a. option_and_then (λ b. binary_kind op a b) (kind_of_expr p.right of)) (kind_of_expr p.left of)
unfolding hidden-the_row-ExprPair-1 hidden
kind-Two op p of = refl

-- and of an `if`
pub kind-If : (p : ExprTriple) (of : Kindred) → kind_of_expr (exprs.If p) of ≡ option_and_then (λ a. option_and_then (λ b. option_and_then (λ d. if_kind a b d) (kind_of_expr p.no of)) (kind_of_expr p.yes of)) (kind_of_expr p.condition of)
unfolding hidden-the_row-ExprTriple-2 hidden
kind-If p of = refl

-- the type of an operator with one operand
pub type-One : (op : Unary) (x : Expr) (of : Kindred) → type_of_expr (exprs.One op x) of ≡ option_and_then (λ a. unary_within op a) (type_of_expr x of)
unfolding hidden-the_row-Expr-0 hidden
type-One op x of = refl

-- of one with two
pub type-Two : (op : Binary) (p : ExprPair) (of : Kindred) → type_of_expr (exprs.Two op p) of ≡ option_and_then (λ a. option_and_then (λ b. binary_within op a b) (type_of_expr p.right of)) (type_of_expr p.left of)
unfolding hidden-the_row-ExprPair-1 hidden
type-Two op p of = refl

-- and of an `if`
pub type-If : (p : ExprTriple) (of : Kindred) → type_of_expr (exprs.If p) of ≡ option_and_then (λ a. option_and_then (λ b. option_and_then (λ d. if_within a b d) (type_of_expr p.no of)) (type_of_expr p.yes of)) (type_of_expr p.condition of)
unfolding hidden-the_row-ExprTriple-2 hidden
type-If p of = refl

-- the value of an operator with one operand
pub value-One : (op : Unary) (x : Expr) (item : Value) → value_of_expr (exprs.One op x) item ≡ unary_value op (value_of_expr x item)
unfolding hidden-the_row-Expr-0 hidden
value-One op x item = refl

-- of one with two
pub value-Two : (op : Binary) (p : ExprPair) (item : Value) → value_of_expr (exprs.Two op p) item ≡ binary_value op (value_of_expr p.left item) (value_of_expr p.right item)
unfolding hidden-the_row-ExprPair-1 hidden
value-Two op p item = refl

-- and of an `if`
pub value-If : (p : ExprTriple) (item : Value) → value_of_expr (exprs.If p) item ≡ (if truth (value_of_expr p.condition item) then value_of_expr p.yes item else value_of_expr p.no item)
unfolding hidden-the_row-ExprTriple-2 hidden
value-If p item = refl

-- an operator with one operand is sound where the operand is
pub sound-One : (op : Unary) (x : Expr) → IsWellFormed (exprs.One op x) ≡ IsWellFormed x
unfolding hidden-the_row-Expr-0 hidden
sound-One op x = refl

-- one with two where both are
pub sound-Two : (op : Binary) (p : ExprPair) → IsWellFormed (exprs.Two op p) ≡ (IsWellFormed p.left × IsWellFormed p.right)
unfolding hidden-the_row-ExprPair-1 hidden
sound-Two op p = refl

-- and an `if` where all its parts are
pub sound-If : (p : ExprTriple) → IsWellFormed (exprs.If p) ≡ (IsWellFormed p.condition × IsWellFormed p.yes × IsWellFormed p.no)
unfolding hidden-the_row-ExprTriple-2 hidden
sound-If p = refl

-- the work that is left in an operator with one operand
pub work-One : (op : Unary) (x : Expr) → work (exprs.One op x) ≡ work x + 2
unfolding hidden-the_row-Expr-0 hidden
work-One op x = refl

-- in one with two
pub work-Two : (op : Binary) (p : ExprPair) → work (exprs.Two op p) ≡ work p.left + work p.right + 3
unfolding hidden-the_row-ExprPair-1 hidden
work-Two op p = refl

-- and in an `if`
pub work-If : (p : ExprTriple) → work (exprs.If p) ≡ work p.condition + work p.yes + work p.no + 3
unfolding hidden-the_row-ExprTriple-2 hidden
work-If p = refl
