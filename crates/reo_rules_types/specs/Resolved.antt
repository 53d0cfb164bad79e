-- Two expressions together.
use Rattle.std.specs.Prelude.{Option, option_map, option_and_then}
use Rattle.reo_exprs.specs.declared.expr.Expr.{Expr}
use Rattle.reo_exprs.specs.declared.expr.ExprPair.{ExprPair}

-- Both, where each is there.
abbrev pub pair_of : Option Expr → Option Expr → Option ExprPair
pair_of o p = option_and_then (λ (a : Expr). option_map (λ (b : Expr). record { left = a; right = b }) p) o
