-- Values seen without memory.
use Rattle.std.specs.Prelude.{ℕ, ◌+◌}
use Rattle.reo_values.specs.declared.kindred.Kindred.{Kindred}
use Rattle.reo_values.specs.declared.value.Value.{Value}
use Rattle.reo_values.specs.declared.value.Value.TheVariants as values
use Rattle.reo_exprs.specs.declared.expr.Expr as expr
use Rattle.reo_exprs.specs.declared.expr.Expr.{Expr}
use Rattle.reo_exprs.specs.declared.view.View.TheVariants as view
use Rattle.reo_exprs.specs.declared.view.View.{View}
use Rattle.reo_exprs.specs.Typing.{IsTyped}
use Rattle.reo_exprs.specs.Valued.{value_of_expr}

-- the value that is seen, where expressions have the item
abbrev pub value_of_view : View → Value → Value
value_of_view view.Unit item = values.Unit
value_of_view (view.Bool b) item = values.Bool b
value_of_view (view.Int n) item = values.Int n
value_of_view (view.Sym k) item = values.Sym k
value_of_view (view.Text bytes) item = values.Text bytes.now
value_of_view (view.Pair p) item = values.Pair (record { left = value_of_expr p.now.left item; right = value_of_expr p.now.right item })
value_of_view (view.Item part) item = part.now

-- expressions that wait in a view have types
abbrev pub AreTyped : View → Kindred → Type 0
AreTyped (view.Pair p) of = IsTyped p.now.left of × IsTyped p.now.right of
AreTyped v of = Unit {0}

-- the view is of no item
abbrev pub IsMade : View → Type 0
IsMade (view.Item part) = ⊥
IsMade v = Unit {0}

-- how much is left to do in an expression
abbrev pub work : Expr → ℕ
work (expr.One' op m (expr.more_of-Expr x _)) = work x + 2
work (expr.Two' op m (expr.more_of-ExprPair x y _)) = work x + work y + 3
work (expr.If' m (expr.more_of-ExprTriple c x y _)) = work c + work x + work y + 3
work e = 0

-- and in a view
abbrev pub work_of_view : View → ℕ
work_of_view (view.Pair p) = work p.now.left + work p.now.right + 3
work_of_view v = 0
