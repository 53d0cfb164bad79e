-- The type of a sound expression is valid, where the item's is.
use Rattle.std.proofs.Common.{ℤ, pos, ◌-ℤ◌, ◌*ℤ◌, Bool, true, ◌&&◌, ◌≡◌, ◌∙◌, length, Some, ap, sym, subst, arith}
use Rattle.std.proofs.lemmas.Bool.{and_parts}
use Rattle.std.specs.Prelude.{◌≤ℤ◌, option_and_then, if◌then◌else◌, int_le, int_div}
use Rattle.std.specs.Int.{int_min, int_max}
use Rattle.std.proofs.lemmas.Int.{ints, clamps}
use denote.Hole.Carrier.{hidden}
use Rattle.reo_values.specs.declared.kindred.Kindred.{Kindred}
use Rattle.reo_values.specs.declared.kindred.Kindred.TheVariants as kinds
use Rattle.reo_values.specs.declared.kindred.Kindred.TheBlock.{hidden-the_row-Twins-0}
use Rattle.reo_values.specs.declared.kindred.Twins.{Twins}
use Rattle.reo_values.specs.declared.operator.Unary.TheVariants as unary
use Rattle.reo_values.specs.declared.operator.Unary.{Unary}
use Rattle.reo_values.specs.declared.operator.Binary.TheVariants as binary
use Rattle.reo_values.specs.declared.operator.Binary.{Binary}
use Rattle.reo_values.specs.Valid.{IsValid}
use Rattle.reo_exprs.proofs.Pairs.{IsValid-Pair}
use Rattle.reo_exprs.specs.declared.expr.Expr as expr
use Rattle.reo_exprs.specs.declared.expr.Expr.{Expr}
use Rattle.reo_exprs.specs.declared.expr.Expr.TheBlock.{hidden-the_row-Expr-0, hidden-the_row-ExprPair-1, hidden-the_row-ExprTriple-2}
use Rattle.reo_exprs.specs.declared.interval.Interval.{Interval}
use Rattle.reo_exprs.specs.Interval.{is_near, least, greatest, negated, sum, difference, product, quotient, remainder}
use Rattle.reo_exprs.specs.Kinds.{joins, join_of, is_within, is_bool, interval_of, most_of, twins_of}
use Rattle.reo_exprs.specs.WellFormed.{IsWellFormed}
use Rattle.reo_exprs.specs.Typing.{provided, within, int_type, on_numbers, is_positive, may_stand_right, unary_type, binary_type, if_type, unary_within, binary_within, if_within, type_of_expr}
use Rattle.reo_exprs.proofs.JoinCases.{where_joined}
use Rattle.reo_exprs.proofs.Near.{near_bounds, near_fits}
use Rattle.reo_exprs.proofs.Options.{some_same, from_and_then, from_map, from_provided, from_if, from_within}
use Rattle.reo_exprs.proofs.Shapes.{is_number, is_pair, from_numbers}
use Rattle.reo_values.proofs.Again.{pair_valid}

-- the type of an interval in order whose bounds are near is valid
near_valid : (x : Interval) → is_within (int_type x) ≡ true → x.low ≤ℤ x.high → IsValid (int_type x)
near_valid x h g =
    let b = and_parts (is_near x.low) (is_near x.high) h in
    let p = near_bounds x.low b.0 in
    let q = near_bounds x.high b.1 in
    (near_fits x.low p.0 p.1, near_fits x.high q.0 q.1, g)

-- a valid type of numbers has its interval in order
in_order : (k : Kindred) (x : Interval) → k ≡ int_type x → IsValid k → x.low ≤ℤ x.high
in_order k x e v = (subst (λ t. IsValid t) e v).2

-- the least of four numbers is at most the greatest
corners_order : (p q r s : ℤ) → least p q r s ≤ℤ greatest p q r s
corners_order p q r s = omega (arith, ints, clamps)

-- the interval of remainders is in order
rest_order : (a b c d : ℤ) → a ≤ℤ b → c ≤ℤ d → pos 1 ≤ℤ c
    → (if int_le (pos 0) a then pos 0 else int_max a (pos 1 -ℤ d)) ≤ℤ (if int_le b (pos 0) then pos 0 else int_min b (d -ℤ pos 1))
rest_order a b c d h g e = grind (arith, ints, clamps)

module _ (a b : Kindred) (v : IsValid a) (w : IsValid b) where
  -- the type of an operator's numbers is valid, where it keeps intervals in order
  numbers_valid : (f : Interval → Interval → Interval) (t : Kindred) → is_within t ≡ true → on_numbers (λ x y. int_type (f x y)) a b ≡ Some t
      → ((x y : Interval) → b ≡ int_type y → x.low ≤ℤ x.high → y.low ≤ℤ y.high → (f x y).low ≤ℤ (f x y).high) → IsValid t
  numbers_valid f t n e ordered =
      let h = from_numbers (λ x y. int_type (f x y)) a b t e in
      subst (λ k. IsValid k) h.4 (near_valid (f h.0 h.1) (ap is_within h.4 ∙ n) (ordered h.0 h.1 h.3 (in_order a h.0 h.2 v) (in_order b h.1 h.3 w)))

  -- and so is that of a comparison of numbers
  truths_valid : (t : Kindred) → on_numbers (λ x y. kinds.Bool) a b ≡ Some t → IsValid t
  truths_valid t e = let h = from_numbers (λ x y. kinds.Bool) a b t e in subst (λ k. IsValid k) h.4 tt

  -- and that of a test
  test_valid : (test : Bool) (t : Kindred) → provided test kinds.Bool ≡ Some t → IsValid t
  test_valid test t e = subst (λ k. IsValid k) (from_provided test kinds.Bool t e).1 tt

  -- a type of divisors has none below 1
  least_divisor : (y : Interval) → b ≡ int_type y → is_positive b ≡ true → pos 1 ≤ℤ y.low
  least_divisor y e h = let g = and_parts (int_le (pos 1) y.low) (int_le (pos 1) y.high) (sym (ap is_positive e) ∙ h) in grind (arith, ints)

  -- the type of an operator with two operands is valid, where theirs are
  binary_valid : (op : Binary) (t : Kindred) → may_stand_right op b ≡ true → is_within t ≡ true → binary_type op a b ≡ Some t → IsValid t
  binary_valid binary.Or t f n e = test_valid (is_bool a && is_bool b) t e
  binary_valid binary.And t f n e = test_valid (is_bool a && is_bool b) t e
  binary_valid binary.Eq t f n e = test_valid (joins a b) t e
  binary_valid binary.Ne t f n e = test_valid (joins a b) t e
  binary_valid binary.Lt t f n e = truths_valid t e
  binary_valid binary.Le t f n e = truths_valid t e
  binary_valid binary.Gt t f n e = truths_valid t e
  binary_valid binary.Ge t f n e = truths_valid t e
  binary_valid binary.Add t f n e = numbers_valid sum t n e (λ x y same p q. omega (arith, ints))
  binary_valid binary.Sub t f n e = numbers_valid difference t n e (λ x y same p q. omega (arith, ints))
  binary_valid binary.Mul t f n e = numbers_valid product t n e (λ x y same p q. corners_order (x.low *ℤ y.low) (x.low *ℤ y.high) (x.high *ℤ y.low) (x.high *ℤ y.high))
  binary_valid binary.Div t f n e = numbers_valid quotient t n e (λ x y same p q. corners_order (int_div x.low y.low) (int_div x.low y.high) (int_div x.high y.low) (int_div x.high y.high))
  binary_valid binary.Rem t f n e = numbers_valid remainder t n e (λ x y same p q. rest_order x.low x.high y.low y.high p q (least_divisor y same f))
  binary_valid binary.Pair t f n e =
      let twins : Twins = record { left = a; right = b } in
      subst (λ k. IsValid k) (some_same (kinds.Pair twins) t e) (rw (IsValid-Pair twins) (v, w))

-- the type of an operator with one operand is valid, where the operand's is
unary_valid : (op : Unary) (a t : Kindred) → IsValid a → is_within t ≡ true → unary_type op a ≡ Some t → IsValid t
unary_valid unary.Not a t v n e = subst (λ k. IsValid k) (from_provided (is_bool a) kinds.Bool t e).1 tt
unary_valid unary.Minus a t v n e =
    let h = from_map (λ x. int_type (negated x)) (interval_of a) t e in
    let o = in_order a h.0 (is_number a h.0 h.1) v in
    subst (λ k. IsValid k) h.2 (near_valid (negated h.0) (ap is_within h.2 ∙ n) (omega (arith, ints)))
unary_valid unary.First a t v n e =
    let h = from_map (λ y. y.left) (twins_of a) t e in
    subst (λ k. IsValid k) h.2 (pair_valid a h.0 (is_pair a h.0 h.1) v).0
unary_valid unary.Second a t v n e =
    let h = from_map (λ y. y.right) (twins_of a) t e in
    subst (λ k. IsValid k) h.2 (pair_valid a h.0 (is_pair a h.0 h.1) v).1
unary_valid unary.Length a t v n e =
    let h = from_map (λ most. kinds.Int (pos 0) (pos most)) (most_of a) t e in
    subst (λ k. IsValid k) h.2 (near_valid (record { low = pos 0; high = pos h.0 }) (ap is_within h.2 ∙ n) (omega (arith, ints)))

-- a join of valid types is valid
join_valid : (s t : Kindred) → joins s t ≡ true → IsValid s → IsValid t → IsValid (join_of s t)
unfolding hidden-the_row-Twins-0 hidden
join_valid s t e =
    where_joined (λ a b. IsValid a → IsValid b → IsValid (join_of a b)) (record {
      units = λ v w. tt;
      truths = λ v w. tt;
      numbers = λ a b c d v w. (omega (arith, ints, clamps), omega (arith, ints, clamps), omega (arith, ints, clamps));
      names = λ xs ys p v w. v;
      texts = λ m n v w. tt;
      pairs = λ x y l r v w. (l v.0 w.0, r v.1 w.1);
    }) s t e

-- the type of a choice is valid, where those that it joins are
if_valid : (k a b t : Kindred) → IsValid a → IsValid b → if_type k a b ≡ Some t → IsValid t
if_valid k a b t v w e =
    let h = from_provided (is_bool k && joins a b) (join_of a b) t e in
    subst (λ u. IsValid u) h.1 (join_valid a b (and_parts (is_bool k) (joins a b) h.0).1 v w)

-- what `within` lets through of a valid type is valid
within_valid : (k t : Kindred) → within k ≡ Some t → IsValid k → IsValid t
within_valid k t e v = subst (λ u. IsValid u) (from_within k t e).1 v

-- the type of a sound expression is valid, where the item's is
pub type_valid : (e : Expr) (of t : Kindred) → IsWellFormed e → type_of_expr e of ≡ Some t → IsValid of → IsValid t
unfolding hidden-the_row-Expr-0 hidden-the_row-ExprPair-1 hidden-the_row-ExprTriple-2 hidden
type_valid expr.It of t s e v = within_valid of t e v
type_valid expr.Unit of t s e v = subst (λ k. IsValid k) (some_same kinds.Unit t e) tt
type_valid (expr.Bool b) of t s e v = subst (λ k. IsValid k) (some_same kinds.Bool t e) tt
type_valid (expr.Int n) of t s e v =
    let h = from_within (kinds.Int n n) t e in
    subst (λ k. IsValid k) h.1 (near_valid (record { low = n; high = n }) (ap is_within h.1 ∙ h.0) (omega (arith, ints)))
type_valid (expr.Text bytes) of t s e v = subst (λ k. IsValid k) (from_provided _ (kinds.Text (length bytes)) t e).1 tt
type_valid (expr.Sym names k) of t s e v = subst (λ j. IsValid j) (some_same (kinds.Sym names) t e) s.0
type_valid (expr.One' op m (expr.more_of-Expr x _)) of t s e v =
    let h = from_and_then (λ a. unary_within op a) (type_of_expr x of) t e in
    let g = from_and_then within (unary_type op h.0) t h.2 in
    let w = from_within g.0 t g.2 in
    within_valid g.0 t g.2 (unary_valid op h.0 g.0 (type_valid x of h.0 s h.1 v) (ap is_within w.1 ∙ w.0) g.1)
type_valid (expr.Two' op m (expr.more_of-ExprPair x y _)) of t s e v =
    let h = from_and_then (λ a. option_and_then (λ b. binary_within op a b) (type_of_expr y of)) (type_of_expr x of) t e in
    let g = from_and_then (λ b. binary_within op h.0 b) (type_of_expr y of) t h.2 in
    let i = from_if (may_stand_right op g.0) (option_and_then within (binary_type op h.0 g.0)) t g.2 in
    let j = from_and_then within (binary_type op h.0 g.0) t i.1 in
    let w = from_within j.0 t j.2 in
    within_valid j.0 t j.2 (binary_valid h.0 g.0 (type_valid x of h.0 s.0 h.1 v) (type_valid y of g.0 s.1 g.1 v) op j.0 i.0 (ap is_within w.1 ∙ w.0) j.1)
type_valid (expr.If' m (expr.more_of-ExprTriple c x y _)) of t s e v =
    let f = from_and_then (λ a. option_and_then (λ b. option_and_then (λ d. if_within a b d) (type_of_expr y of)) (type_of_expr x of)) (type_of_expr c of) t e in
    let h = from_and_then (λ b. option_and_then (λ d. if_within f.0 b d) (type_of_expr y of)) (type_of_expr x of) t f.2 in
    let g = from_and_then (λ d. if_within f.0 h.0 d) (type_of_expr y of) t h.2 in
    let j = from_and_then within (if_type f.0 h.0 g.0) t g.2 in
    within_valid j.0 t j.2 (if_valid f.0 h.0 g.0 j.0 (type_valid x of h.0 s.1 h.1 v) (type_valid y of g.0 s.2 g.1 v) j.1)
