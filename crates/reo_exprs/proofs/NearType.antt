-- The numbers of the type of an expression are near.
use Rattle.std.proofs.Common.{ℤ, true, ◌≡◌, length, Some, ap, sym, refl, arith}
use Rattle.std.proofs.lemmas.Bool.{and_parts}
use Rattle.std.specs.Prelude.{◌≤ℤ◌, option_and_then}
use Rattle.std.proofs.lemmas.Int.{ints}
use denote.Hole.Carrier.{hidden}
use Rattle.reo_values.specs.declared.value.Value as value
use Rattle.reo_values.specs.declared.value.Value.{Value}
use Rattle.reo_values.specs.declared.value.Value.TheVariants as values
use Rattle.reo_values.specs.declared.kindred.Kindred as kindred
use Rattle.reo_values.specs.declared.kindred.Kindred.{Kindred}
use Rattle.reo_values.specs.declared.kindred.Kindred.TheVariants as kinds
use Rattle.reo_exprs.specs.declared.expr.Expr as expr
use Rattle.reo_exprs.specs.declared.expr.Expr.{Expr}
use Rattle.reo_exprs.specs.declared.expr.Expr.TheBlock.{hidden-the_row-Expr-0, hidden-the_row-ExprPair-1, hidden-the_row-ExprTriple-2}
use Rattle.reo_exprs.specs.Interval.{is_near}
use Rattle.reo_exprs.specs.Kinds.{is_within}
use Rattle.reo_exprs.specs.Typing.{within, may_stand_right, unary_type, binary_type, if_type, unary_within, binary_within, if_within, type_of_expr}
use Rattle.reo_exprs.specs.Valued.{number}
use Rattle.reo_exprs.proofs.Options.{some_same, from_and_then, from_provided, from_if, from_within}
use Rattle.reo_exprs.proofs.Lies.{Lies}

-- the intervals of the type of an expression are near
pub type_near : (e : Expr) (of t : Kindred) → type_of_expr e of ≡ Some t → is_within t ≡ true
unfolding hidden-the_row-Expr-0 hidden-the_row-ExprPair-1 hidden-the_row-ExprTriple-2 hidden
type_near expr.It of t e = (from_within of t e).0
type_near expr.Unit of t e = sym (ap is_within (some_same kinds.Unit t e))
type_near (expr.Bool b) of t e = sym (ap is_within (some_same kinds.Bool t e))
type_near (expr.Int n) of t e = (from_within (kinds.Int n n) t e).0
type_near (expr.Text bytes) of t e = sym (ap is_within (from_provided _ (kinds.Text (length bytes)) t e).1)
type_near (expr.Sym names k) of t e = sym (ap is_within (some_same (kinds.Sym names) t e))
type_near (expr.One' op m' (expr.more_of-Expr x _)) of t e =
    let h = from_and_then (λ a. unary_within op a) (type_of_expr x of) t e in
    let g = from_and_then within (unary_type op h.0) t h.2 in
    (from_within g.0 t g.2).0
type_near (expr.Two' op m' (expr.more_of-ExprPair x y _)) of t e =
    let h = from_and_then (λ a. option_and_then (λ b. binary_within op a b) (type_of_expr y of)) (type_of_expr x of) t e in
    let g = from_and_then (λ b. binary_within op h.0 b) (type_of_expr y of) t h.2 in
    let i = from_if (may_stand_right op g.0) (option_and_then within (binary_type op h.0 g.0)) t g.2 in
    let j = from_and_then within (binary_type op h.0 g.0) t i.1 in
    (from_within j.0 t j.2).0
type_near (expr.If' m' (expr.more_of-ExprTriple c x y _)) of t e =
    let f = from_and_then (λ a. option_and_then (λ b. option_and_then (λ d. if_within a b d) (type_of_expr y of)) (type_of_expr x of)) (type_of_expr c of) t e in
    let h = from_and_then (λ b. option_and_then (λ d. if_within f.0 b d) (type_of_expr y of)) (type_of_expr x of) t f.2 in
    let g = from_and_then (λ d. if_within f.0 h.0 d) (type_of_expr y of) t h.2 in
    let j = from_and_then within (if_type f.0 h.0 g.0) t g.2 in
    (from_within j.0 t j.2).0

-- a number between near ones is near
near_between : (a z b : ℤ) → a ≤ℤ z → z ≤ℤ b → is_near a ≡ true → is_near b ≡ true → is_near z ≡ true
near_between a z b h g e f = grind (arith, ints)

module _ (S : Type 0) where
  -- and so is one of a type whose intervals are near
  near_in : (z : ℤ) (k : Kindred) → Lies S (values.Int z) k → is_within k ≡ true → is_near z ≡ true
  near_in z kindred.Unit h e = absurd h
  near_in z kindred.Bool h e = absurd h
  near_in z (kindred.Int a b) h e = let x = and_parts (is_near a) (is_near b) e in near_between a z b h.0 h.1 x.0 x.1
  near_in z (kindred.Sym names) h e = absurd h
  near_in z (kindred.Text most) h e = absurd h
  near_in z (kindred.Pair' n (kindred.more_of-Twins a b kindred.end_of-Twins)) h e = absurd h

  -- each number of a type whose intervals are near is near; what is no number counts as 0
  pub number_near : (v : Value) (k : Kindred) → Lies S v k → is_within k ≡ true → is_near (number v) ≡ true
  number_near value.Unit k2 h e = refl
  number_near (value.Bool b) k2 h e = refl
  number_near (value.Int z) k2 h e = near_in z k2 h e
  number_near (value.Sym k) k2 h e = refl
  number_near (value.Text bytes) k2 h e = refl
  number_near (value.Pair' m (value.more_of-Couple l r _)) k2 h e = refl
