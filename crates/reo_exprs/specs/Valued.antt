-- The value of an expression.
use Rattle.std.specs.Prelude.{ℕ, Bool, true, false, not, ◌&&◌, ◌||◌, ◌==◌, ℤ, pos, neg_ℤ, ◌+ℤ◌, ◌-ℤ◌, ◌*ℤ◌, int_lt, int_le, int_div, int_rem, List, [], length, bytes_eq, if◌then◌else◌}
use Rattle.std.specs.Ordering.{int_eq}
use Rattle.reo_values.specs.declared.value.Value as value
use Rattle.reo_values.specs.declared.value.Value.{Value}
use Rattle.reo_values.specs.declared.value.Value.TheVariants as values
use Rattle.reo_values.specs.declared.operator.Unary.TheVariants as unary
use Rattle.reo_values.specs.declared.operator.Unary.{Unary}
use Rattle.reo_values.specs.declared.operator.Binary.TheVariants as binary
use Rattle.reo_values.specs.declared.operator.Binary.{Binary}
use Rattle.reo_values.specs.Pair.{left_of, right_of}
use Rattle.reo_exprs.specs.declared.expr.Expr as expr
use Rattle.reo_exprs.specs.declared.expr.Expr.{Expr}

-- whether two items are equal
abbrev pub same_value : Value → Value → Bool
same_value value.Unit value.Unit = true
same_value (value.Bool true) (value.Bool b) = b
same_value (value.Bool false) (value.Bool b) = not b
same_value (value.Int z) (value.Int w) = int_eq z w
same_value (value.Sym k) (value.Sym j) = k == j
same_value (value.Text bytes) (value.Text bytes2) = bytes_eq bytes bytes2
same_value (value.Pair' m (value.more_of-Couple a b _)) (value.Pair' n (value.more_of-Couple c d _)) = same_value a c && same_value b d
same_value _ _ = false

-- a truth value's truth, a number's number, a text's bytes; of another item, none
abbrev pub truth : Value → Bool
truth (value.Bool b) = b
truth item = false

abbrev pub number : Value → ℤ
number (value.Int z) = z
number item = pos 0

abbrev pub bytes_of : Value → List ℕ
bytes_of (value.Text bytes) = bytes
bytes_of item = []

-- an operator's value on the value of its operand
abbrev pub unary_value : Unary → Value → Value
unary_value unary.Not x = values.Bool (not (truth x))
unary_value unary.Minus x = values.Int (neg_ℤ (number x))
unary_value unary.First x = left_of x
unary_value unary.Second x = right_of x
unary_value unary.Length x = values.Int (pos (length (bytes_of x)))

-- and on the values of its two operands: `/` rounds towards zero, and `%` has the sign of its left side
abbrev pub binary_value : Binary → Value → Value → Value
binary_value binary.Or x y = values.Bool (truth x || truth y)
binary_value binary.And x y = values.Bool (truth x && truth y)
binary_value binary.Eq x y = values.Bool (same_value x y)
binary_value binary.Ne x y = values.Bool (not (same_value x y))
binary_value binary.Lt x y = values.Bool (int_lt (number x) (number y))
binary_value binary.Le x y = values.Bool (int_le (number x) (number y))
binary_value binary.Gt x y = values.Bool (int_lt (number y) (number x))
binary_value binary.Ge x y = values.Bool (int_le (number y) (number x))
binary_value binary.Add x y = values.Int (number x +ℤ number y)
binary_value binary.Sub x y = values.Int (number x -ℤ number y)
binary_value binary.Mul x y = values.Int (number x *ℤ number y)
binary_value binary.Div x y = values.Int (int_div (number x) (number y))
binary_value binary.Rem x y = values.Int (int_rem (number x) (number y))
binary_value binary.Pair x y = values.Pair (record { left = x; right = y })

-- the value of an expression on an item
abbrev pub value_of_expr : Expr → Value → Value
value_of_expr expr.It item = item
value_of_expr expr.Unit item = values.Unit
value_of_expr (expr.Bool b) item = values.Bool b
value_of_expr (expr.Int n) item = values.Int n
value_of_expr (expr.Text bytes) item = values.Text bytes
value_of_expr (expr.Sym names k) item = values.Sym k
value_of_expr (expr.One' op m (expr.more_of-Expr x _)) item = unary_value op (value_of_expr x item)
value_of_expr (expr.Two' op m (expr.more_of-ExprPair x y _)) item = binary_value op (value_of_expr x item) (value_of_expr y item)
value_of_expr (expr.If' m (expr.more_of-ExprTriple c x y _)) item = if truth (value_of_expr c item) then value_of_expr x item else value_of_expr y item
