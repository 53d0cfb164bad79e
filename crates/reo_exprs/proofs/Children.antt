-- The parts of a typed expression are typed, and its numbers are near.
use Rattle.std.proofs.Common.{true, ◌≡◌, ◌∙◌, Some, ap, sym}
use Rattle.std.specs.Prelude.{option_and_then}
use Rattle.reo_values.specs.declared.value.Value.{Value}
use Rattle.reo_values.specs.declared.kindred.Kindred.{Kindred}
use Rattle.reo_values.specs.declared.operator.Unary.{Unary}
use Rattle.reo_values.specs.declared.operator.Binary.{Binary}
use Rattle.reo_values.specs.Kind.{IsIn}
use Rattle.reo_exprs.specs.declared.expr.Expr.{Expr}
use Rattle.reo_exprs.specs.declared.expr.Expr.TheVariants as exprs
use Rattle.reo_exprs.specs.declared.expr.ExprPair.{ExprPair}
use Rattle.reo_exprs.specs.declared.expr.ExprTriple.{ExprTriple}
use Rattle.reo_exprs.specs.Interval.{is_near}
use Rattle.reo_exprs.specs.Typing.{type_of_expr, unary_within, binary_within, if_within, IsTyped}
use Rattle.reo_exprs.specs.Valued.{number, value_of_expr}
use Rattle.reo_exprs.proofs.InType.{value_near}
use Rattle.reo_exprs.proofs.Options.{from_and_then}
use Rattle.reo_exprs.proofs.Trees.{type-One, type-Two, type-If}

module _ (e : Expr) (of : Kindred) (typed : IsTyped e of) where
  -- the operand of an operator is typed
  pub typed_operand : (op : Unary) (x : Expr) → e ≡ exprs.One op x → IsTyped x of
  typed_operand op x p =
      let told : type_of_expr (exprs.One op x) of ≡ Some typed.0 = sym (ap (λ f. type_of_expr f of) p) ∙ typed.1 in
      let h = from_and_then (λ a. unary_within op a) (type_of_expr x of) typed.0 (sym (type-One op x of) ∙ told) in
      (h.0, h.1)

  -- and so are two
  pub typed_operands : (op : Binary) (p : ExprPair) → e ≡ exprs.Two op p → IsTyped p.left of × IsTyped p.right of
  typed_operands op p q =
      let told : type_of_expr (exprs.Two op p) of ≡ Some typed.0 = sym (ap (λ f. type_of_expr f of) q) ∙ typed.1 in
      let h = from_and_then (λ a. option_and_then (λ b. binary_within op a b) (type_of_expr p.right of)) (type_of_expr p.left of) typed.0 (sym (type-Two op p of) ∙ told) in
      let g = from_and_then (λ b. binary_within op h.0 b) (type_of_expr p.right of) typed.0 h.2 in
      ((h.0, h.1), (g.0, g.1))

  -- and the parts of an `if`
  pub typed_parts : (p : ExprTriple) → e ≡ exprs.If p → IsTyped p.condition of × IsTyped p.yes of × IsTyped p.no of
  typed_parts p q =
      let told : type_of_expr (exprs.If p) of ≡ Some typed.0 = sym (ap (λ f. type_of_expr f of) q) ∙ typed.1 in
      let f = from_and_then (λ a. option_and_then (λ b. option_and_then (λ d. if_within a b d) (type_of_expr p.no of)) (type_of_expr p.yes of)) (type_of_expr p.condition of) typed.0 (sym (type-If p of) ∙ told) in
      let h = from_and_then (λ b. option_and_then (λ d. if_within f.0 b d) (type_of_expr p.no of)) (type_of_expr p.yes of) typed.0 f.2 in
      let g = from_and_then (λ d. if_within f.0 h.0 d) (type_of_expr p.no of) typed.0 h.2 in
      ((f.0, f.1), (h.0, h.1), (g.0, g.1))

  -- its number is near
  pub near_value : (item : Value) → IsIn item of → is_near (number (value_of_expr e item)) ≡ true
  near_value item m = value_near e of typed.0 item typed.1 m
