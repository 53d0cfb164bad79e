-- Which expressions a program may have.
use Rattle.std.specs.Prelude.{◌<◌, length}
use Rattle.std.specs.List.{All}
use Rattle.reo_values.specs.Kind.{IsPlain}
use Rattle.reo_values.specs.Valid.{AreNames}
use Rattle.reo_exprs.specs.declared.expr.Expr as expr
use Rattle.reo_exprs.specs.declared.expr.Expr.{Expr}

-- in each part of the expression a name is one of its type's names, which are such, and a text is printable
abbrev pub IsWellFormed : Expr → Type 0
IsWellFormed (expr.Text bytes) = All IsPlain bytes
IsWellFormed (expr.Sym names k) = AreNames names × (k < length names)
IsWellFormed (expr.One' op m (expr.more_of-Expr x _)) = IsWellFormed x
IsWellFormed (expr.Two' op m (expr.more_of-ExprPair x y _)) = IsWellFormed x × IsWellFormed y
IsWellFormed (expr.If' m (expr.more_of-ExprTriple c x y _)) = IsWellFormed c × IsWellFormed x × IsWellFormed y
IsWellFormed _ = Unit {0}
