-- The expressions that filters and maps have.
use Rattle.std.specs.Prelude.{◌≡◌, Some}
use Rattle.std.specs.Coded.{Coded, Coded-set, coded_option}
use Rattle.std.proofs.Common.{sym, ◌∙◌}
use mathlib.Core.HLevel.{Σ_prop_path}
use Rattle.reo_values.specs.declared.kindred.Kindred.{Kindred}
use Rattle.reo_values.specs.declared.kindred.Kindred.TheVariants as kinds
use Rattle.reo_exprs.specs.declared.expr.Expr.{Expr}
use Rattle.reo_exprs.specs.Typing.{type_of_expr, IsTyped}

-- the expression's type is that of truth values, where `it` has the type
abbrev pub IsPredicate : Expr → Kindred → Type 0
IsPredicate expr of = type_of_expr expr of ≡ Some kinds.Bool

some_is : {A : Type 0} (a b : A) → Some a ≡ Some b → a ≡ b
some_is a b is = cc

-- an expression has one type at most
pub IsTyped-prop : Coded Kindred → (e : Expr) (of : Kindred) → IsProp (IsTyped e of)
IsTyped-prop code e of (t, p) (s, q) = Σ_prop_path (λ k. Coded-set (coded_option code) (type_of_expr e of) (Some k)) (some_is t s (sym p ∙ q))
