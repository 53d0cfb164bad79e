-- The type of an expression.
use Rattle.std.specs.Prelude.{Bool, true, ◌&&◌, ◌≡◌, pos, int_le, length, nat_le, Option, Some, None, option_map, option_and_then, if◌then◌else◌}
use Rattle.reo_values.specs.declared.kindred.Kindred.{Kindred}
use Rattle.reo_values.specs.declared.kindred.Kindred.TheVariants as kinds
use Rattle.reo_values.specs.declared.operator.Unary.TheVariants as unary
use Rattle.reo_values.specs.declared.operator.Unary.{Unary}
use Rattle.reo_values.specs.declared.operator.Binary.TheVariants as binary
use Rattle.reo_values.specs.declared.operator.Binary.{Binary}
use Rattle.reo_exprs.specs.declared.expr.Expr as expr
use Rattle.reo_exprs.specs.declared.expr.Expr.{Expr}
use Rattle.reo_exprs.specs.declared.interval.Interval.{Interval}
use Rattle.reo_exprs.specs.Interval.{arithmetic, negated, sum, difference, product, quotient, remainder}
use Rattle.reo_exprs.specs.Kinds.{kind_of, joins, join_of, is_within, interval_of, most_of, twins_of, is_bool}

-- the type, where the test holds
abbrev pub provided : Bool → Kindred → Option Kindred
provided test k = if test then Some k else None

-- the type of the numbers of an interval
abbrev pub int_type : Interval → Kindred
int_type x = kinds.Int x.low x.high

-- a type made of the intervals of two types of numbers
abbrev pub on_numbers : (Interval → Interval → Kindred) → Kindred → Kindred → Option Kindred
on_numbers f x y = option_and_then (λ a. option_map (λ b. f a b) (interval_of y)) (interval_of x)

-- the type of an operator's value, by the type of its operand; None where they do not fit
abbrev pub unary_type : Unary → Kindred → Option Kindred
unary_type unary.Not x = provided (is_bool x) kinds.Bool
unary_type unary.Minus x = option_map (λ a. int_type (negated a)) (interval_of x)
unary_type unary.First x = option_map (λ t. t.left) (twins_of x)
unary_type unary.Second x = option_map (λ t. t.right) (twins_of x)
unary_type unary.Length x = option_map (λ most. kinds.Int (pos 0) (pos most)) (most_of x)

-- the same, by the types of its two operands
abbrev pub binary_type : Binary → Kindred → Kindred → Option Kindred
binary_type binary.Or x y = provided (is_bool x && is_bool y) kinds.Bool
binary_type binary.And x y = provided (is_bool x && is_bool y) kinds.Bool
binary_type binary.Eq x y = provided (joins x y) kinds.Bool
binary_type binary.Ne x y = provided (joins x y) kinds.Bool
binary_type binary.Lt x y = on_numbers (λ a b. kinds.Bool) x y
binary_type binary.Le x y = on_numbers (λ a b. kinds.Bool) x y
binary_type binary.Gt x y = on_numbers (λ a b. kinds.Bool) x y
binary_type binary.Ge x y = on_numbers (λ a b. kinds.Bool) x y
binary_type binary.Add x y = on_numbers (λ a b. int_type (sum a b)) x y
binary_type binary.Sub x y = on_numbers (λ a b. int_type (difference a b)) x y
binary_type binary.Mul x y = on_numbers (λ a b. int_type (product a b)) x y
binary_type binary.Div x y = on_numbers (λ a b. int_type (quotient a b)) x y
binary_type binary.Rem x y = on_numbers (λ a b. int_type (remainder a b)) x y
binary_type binary.Pair x y = Some (kinds.Pair (record { left = x; right = y }))

-- the type of an `if`, by those of its parts
abbrev pub if_type : Kindred → Kindred → Kindred → Option Kindred
if_type c x y = provided (is_bool c && joins x y) (join_of x y)

-- the kinds of these, by the kinds of the operands
abbrev pub unary_kind : Unary → Kindred → Option Kindred
unary_kind op x = option_map kind_of (unary_type op x)

abbrev pub binary_kind : Binary → Kindred → Kindred → Option Kindred
binary_kind op x y = option_map kind_of (binary_type op x y)

abbrev pub if_kind : Kindred → Kindred → Kindred → Option Kindred
if_kind c x y = option_map kind_of (if_type c x y)

-- the type, where all its intervals lie from -10^18 to 10^18
abbrev pub within : Kindred → Option Kindred
within k = provided (is_within k) k

-- whether the bounds of a type of numbers are 1 or more
abbrev pub is_positive : Kindred → Bool
is_positive (kinds.Int low high) = int_le (pos 1) low && int_le (pos 1) high
is_positive k = true

-- whether an operator may have a right operand of the type: a divisor is at least 1
abbrev pub may_stand_right : Binary → Kindred → Bool
may_stand_right binary.Div y = is_positive y
may_stand_right binary.Rem y = is_positive y
may_stand_right op y = true

-- the types of operators' values, where no bound is broken
abbrev pub unary_within : Unary → Kindred → Option Kindred
unary_within op x = option_and_then within (unary_type op x)

abbrev pub binary_within : Binary → Kindred → Kindred → Option Kindred
binary_within op x y = if may_stand_right op y then option_and_then within (binary_type op x y) else None

abbrev pub numbers_within : Binary → Kindred → Kindred → Option Kindred
numbers_within op x y = if may_stand_right op y then option_and_then within (on_numbers (λ a b. int_type (arithmetic op a b)) x y) else None

abbrev pub if_within : Kindred → Kindred → Kindred → Option Kindred
if_within c x y = option_and_then within (if_type c x y)

-- the kind of an expression where `it` has the type; None where it is mistyped
abbrev pub kind_of_expr : Expr → Kindred → Option Kindred
kind_of_expr expr.It of = Some (kind_of of)
kind_of_expr expr.Unit of = Some kinds.Unit
kind_of_expr (expr.Bool b) of = Some kinds.Bool
kind_of_expr (expr.Int n) of = Some (kinds.Int (pos 0) (pos 0))
kind_of_expr (expr.Text bytes) of = Some (kinds.Text 0)
kind_of_expr (expr.Sym names k) of = Some (kinds.Sym names)
kind_of_expr (expr.One' op m (expr.more_of-Expr x _)) of = option_and_then (λ a. unary_kind op a) (kind_of_expr x of)
kind_of_expr (expr.Two' op m (expr.more_of-ExprPair x y _)) of = option_and_then (λ a. option_and_then (λ b. binary_kind op a b) (kind_of_expr y of)) (kind_of_expr x of)
kind_of_expr (expr.If' m (expr.more_of-ExprTriple c x y _)) of =
    option_and_then (λ a. option_and_then (λ b. option_and_then (λ d. if_kind a b d) (kind_of_expr y of)) (kind_of_expr x of)) (kind_of_expr c of)

-- the type of an expression where `it` has the type; None where it is mistyped, and where a bound is broken
abbrev pub type_of_expr : Expr → Kindred → Option Kindred
type_of_expr expr.It of = within of
type_of_expr expr.Unit of = Some kinds.Unit
type_of_expr (expr.Bool b) of = Some kinds.Bool
type_of_expr (expr.Int n) of = within (kinds.Int n n)
type_of_expr (expr.Text bytes) of = provided (nat_le (length bytes) 1024) (kinds.Text (length bytes))
type_of_expr (expr.Sym names k) of = Some (kinds.Sym names)
type_of_expr (expr.One' op m (expr.more_of-Expr x _)) of = option_and_then (λ a. unary_within op a) (type_of_expr x of)
type_of_expr (expr.Two' op m (expr.more_of-ExprPair x y _)) of = option_and_then (λ a. option_and_then (λ b. binary_within op a b) (type_of_expr y of)) (type_of_expr x of)
type_of_expr (expr.If' m (expr.more_of-ExprTriple c x y _)) of =
    option_and_then (λ a. option_and_then (λ b. option_and_then (λ d. if_within a b d) (type_of_expr y of)) (type_of_expr x of)) (type_of_expr c of)

-- the expression has a type where `it` has the type
abbrev pub IsTyped : Expr → Kindred → Type 0
IsTyped e of = (t : Kindred) × (type_of_expr e of ≡ Some t)
