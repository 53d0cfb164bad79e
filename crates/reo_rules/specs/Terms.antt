-- Expressions as they are written, and what they stand for.
use Rattle.std.specs.Prelude.{ℕ, List, [], ◌∷◌, ◌++◌, Option, Some, None, bytes_eq, option_map, option_and_then}
use Rattle.std.specs.List.{position_from}
use Rattle.reo_values.specs.declared.kindred.Kindred as kindred
use Rattle.reo_values.specs.declared.kindred.Kindred.{Kindred}
use Rattle.reo_exprs.specs.declared.expr.Expr.{Expr}
use Rattle.reo_exprs.specs.declared.expr.Expr.TheVariants as exprs
use Rattle.reo_trees.specs.declared.terms.TermForm as form
use Rattle.reo_trees.specs.declared.terms.TermForm.{TermForm}
use Rattle.reo_rules.specs.Types.{Typed, type_named}

-- The symbol of a type of this name.
abbrev pub symbol_in : Kindred → List ℕ → Option Expr
symbol_in (kindred.Sym names) symbol = option_map (λ k. exprs.Sym names k) (position_from (bytes_eq symbol) 0 names)
symbol_in k symbol = None

-- What a written expression stands for; None where some `T.s` is no symbol of a sym type.
abbrev pub expr_of : List Typed → TermForm → Option Expr
expr_of known form.It = Some exprs.It
expr_of known form.Unit = Some exprs.Unit
expr_of known (form.Bool b) = Some (exprs.Bool b)
expr_of known (form.Int z) = Some (exprs.Int z)
expr_of known (form.Text bytes) = Some (exprs.Text bytes)
expr_of known (form.Sym type symbol) = symbol_in (type_named known type) symbol
expr_of known (form.One' op m (form.more_of-Term k x _)) = option_map (λ a. exprs.One op a) (expr_of known x)
expr_of known (form.Two' op m (form.more_of-TermPair k x l y _)) =
    option_and_then (λ a. option_map (λ b. exprs.Two op (record { left = a; right = b })) (expr_of known y)) (expr_of known x)
expr_of known (form.If' m (form.more_of-TermTriple k c l x i y _)) =
    option_and_then (λ a. option_and_then (λ b. option_map (λ d. exprs.If (record { condition = a; yes = b; no = d })) (expr_of known y)) (expr_of known x)) (expr_of known c)

-- `T.s`, with its line.
pub record Symbol : Type 0 where
  pub line : ℕ
  pub type : List ℕ
  pub symbol : List ℕ

-- The symbols that a written expression names, in text order.
abbrev pub symbols_in : ℕ → TermForm → List Symbol
symbols_in line (form.Sym type symbol) = record { line = line; type = type; symbol = symbol } ∷ []
symbols_in line (form.One' op m (form.more_of-Term k x _)) = symbols_in k x
symbols_in line (form.Two' op m (form.more_of-TermPair k x l y _)) = symbols_in k x ++ symbols_in l y
symbols_in line (form.If' m (form.more_of-TermTriple k c l x i y _)) = symbols_in k c ++ (symbols_in l x ++ symbols_in i y)
symbols_in line f = []
