-- The text of expressions.
use Rattle.std.specs.Prelude.{ℕ, Bool, true, false, List, [], ◌++◌, codes, slice_index_or}
use Rattle.std.specs.Fmt.{signed_decimal}
use Rattle.reo_values.specs.ItemText.{quoted, truth_text}
use Rattle.reo_values.specs.declared.operator.Unary.{Unary}
use Rattle.reo_values.specs.declared.operator.Unary.TheVariants as unaries
use Rattle.reo_values.specs.declared.operator.Binary.{Binary}
use Rattle.reo_values.specs.declared.operator.Binary.TheVariants as binaries
use Rattle.reo_exprs.specs.declared.expr.Expr as expr
use Rattle.reo_exprs.specs.declared.expr.Expr.{Expr}
use Rattle.reo_drawing.specs.label_texts.Signs.{unary_text, binary_text}

-- The name at a place.
abbrev pub symbol_text : List (List ℕ) → ℕ → List ℕ
symbol_text names place = slice_index_or names place []

-- Parentheses round an operand.
abbrev pub opening : Bool → List ℕ
opening true = codes "("
opening false = []

abbrev pub closing : Bool → List ℕ
closing true = codes ")"
closing false = []

abbrev pub pair_text : List ℕ → List ℕ → List ℕ
pair_text x y = codes "(" ++ (x ++ (codes ", " ++ (y ++ codes ")")))

-- An operator between its operands, as an operand itself or not.
abbrev pub infix_text : Bool → Binary → List ℕ → List ℕ → List ℕ
infix_text inner o x y = opening inner ++ (x ++ (codes " " ++ (binary_text o ++ (codes " " ++ (y ++ closing inner)))))

-- An operator with one operand: a sign before it, or a call.
abbrev pub applied_text : Bool → Unary → (Bool → List ℕ) → List ℕ
applied_text inner unaries.Not x = opening inner ++ (codes "!" ++ (x true ++ closing inner))
applied_text inner unaries.Minus x = opening inner ++ (codes "-" ++ (x true ++ closing inner))
applied_text inner u x = unary_text u ++ (codes "(" ++ (x false ++ codes ")"))

-- An operator with two operands. A pair has parentheses of its own.
abbrev pub joined_text : Bool → Binary → (Bool → List ℕ) → (Bool → List ℕ) → List ℕ
joined_text inner binaries.Pair x y = pair_text (x false) (y false)
joined_text inner o x y = infix_text inner o (x true) (y true)

-- An expression, as an operand or by itself: an operand that has an operator of its own stands in parentheses.
abbrev pub form_text : Bool → Expr → List ℕ
form_text inner expr.It = codes "it"
form_text inner expr.Unit = codes "unit"
form_text inner (expr.Bool b) = truth_text b
form_text inner (expr.Int z) = signed_decimal z
form_text inner (expr.Text bytes) = quoted bytes
form_text inner (expr.Sym names k) = symbol_text names k
form_text inner (expr.One' u m (expr.more_of-Expr x _)) = applied_text inner u (λ i. form_text i x)
form_text inner (expr.Two' o m (expr.more_of-ExprPair x y _)) = joined_text inner o (λ i. form_text i x) (λ i. form_text i y)
form_text inner (expr.If' m (expr.more_of-ExprTriple c x y _)) =
    codes "if(" ++ (form_text false c ++ (codes ", " ++ (form_text false x ++ (codes ", " ++ (form_text false y ++ codes ")")))))

abbrev pub expr_text : Expr → List ℕ
expr_text e = form_text false e
