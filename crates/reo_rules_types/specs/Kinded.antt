-- The kind of a written expression.
use Rattle.std.specs.Prelude.{◌≡◌, ℕ, ◌<◌, ◌&&◌, Bool, Option, Some, None, List, length, option_and_then, is_some}
use Rattle.reo_values.specs.declared.kindred.Kindred.{Kindred}
use Rattle.reo_values.specs.declared.operator.Binary.TheVariants as binary
use Rattle.reo_values.specs.declared.operator.Binary.{Binary}
use Rattle.reo_exprs.specs.declared.expr.Expr.{Expr}
use Rattle.reo_exprs.specs.Kinds.{interval_of, is_bool}
use Rattle.reo_exprs.specs.Typing.{kind_of_expr}
use Rattle.reo_trees.specs.declared.terms.TermForm.{TermForm}
use Rattle.reo_trees.specs.declared.terms.TermForm.TheVariants as form_variants
use Rattle.reo_rules.specs.Types.{Typed, is_same}
use Rattle.reo_rules.specs.Terms.{expr_of}
use Rattle.reo_rules_types.specs.Cells.{type_at}

-- The kind of a written expression where `it` has the type.
abbrev pub kind_of_form : List Typed → TermForm → Kindred → Option Kindred
kind_of_form known form of = option_and_then (λ (e : Expr). kind_of_expr e of) (expr_of known form)

-- The number is that of the type, or there is neither.
abbrev pub IsMade : List Kindred → Option ℕ → Option Kindred → Type 0
IsMade types None kind = kind ≡ None
IsMade types (Some n) kind = (n < length types) × (kind ≡ Some (type_at types n))

-- The kinds are those that an operator takes, where it makes no pair.
abbrev pub fits_test : Binary → Kindred → Kindred → Bool
fits_test binary.Or x y = is_bool x && is_bool y
fits_test binary.And x y = is_bool x && is_bool y
fits_test binary.Eq x y = is_same x y
fits_test binary.Ne x y = is_same x y
fits_test op x y = is_some (interval_of x) && is_some (interval_of y)

-- The kind of a symbol.
abbrev pub kind_of_symbol : List Typed → List ℕ → List ℕ → Kindred → Option Kindred
kind_of_symbol known type symbol of = kind_of_form known (form_variants.Sym type symbol) of
