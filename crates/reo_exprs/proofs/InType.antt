-- The value of an expression is of its type, and its number is near.
use Rattle.std.proofs.Common.{ℕ, ℤ, pos, neg_ℤ, ◌+ℤ◌, ◌-ℤ◌, ◌*ℤ◌, Bool, true, false, not, ◌&&◌, ◌||◌, ◌≡◌, ◌≤◌, ◌∙◌, length, Some, ap, sym, subst, arith}
use Rattle.std.proofs.lemmas.Bool.{and_parts}
use Rattle.std.specs.Prelude.{◌≤ℤ◌, option_and_then, if◌then◌else◌, int_lt, int_le, int_div, int_rem}
use Rattle.std.proofs.lemmas.Int.{ints}
use denote.Hole.Carrier.{hidden}
use Rattle.reo_values.specs.declared.value.Value as value
use Rattle.reo_values.specs.declared.value.Value.{Value}
use Rattle.reo_values.specs.declared.value.Value.TheVariants as values
use Rattle.reo_values.specs.declared.value.Couple.{Couple}
use Rattle.reo_values.specs.declared.kindred.Kindred.{Kindred}
use Rattle.reo_values.specs.declared.kindred.Kindred.TheVariants as kinds
use Rattle.reo_values.specs.declared.kindred.Twins.{Twins}
use Rattle.reo_values.specs.declared.operator.Unary.TheVariants as unary
use Rattle.reo_values.specs.declared.operator.Unary.{Unary}
use Rattle.reo_values.specs.declared.operator.Binary.TheVariants as binary
use Rattle.reo_values.specs.declared.operator.Binary.{Binary}
use Rattle.reo_values.specs.Kind.{IsIn}
use Rattle.reo_values.specs.Pair.{left_of, right_of}
use Rattle.reo_exprs.proofs.Pairs.{left_of-Pair, right_of-Pair}
use Rattle.reo_exprs.specs.declared.expr.Expr as expr
use Rattle.reo_exprs.specs.declared.expr.Expr.{Expr}
use Rattle.reo_exprs.specs.declared.expr.Expr.TheBlock.{hidden-the_row-Expr-0, hidden-the_row-ExprPair-1, hidden-the_row-ExprTriple-2}
use Rattle.reo_exprs.specs.declared.interval.Interval.{Interval}
use Rattle.reo_exprs.specs.Interval.{is_near, negated, sum, difference, product, quotient, remainder}
use Rattle.reo_exprs.specs.Kinds.{joins, join_of, is_bool, interval_of, most_of, twins_of}
use Rattle.reo_exprs.specs.WellFormed.{IsWellFormed}
use Rattle.reo_exprs.specs.Typing.{within, int_type, on_numbers, is_positive, may_stand_right, unary_type, binary_type, if_type, unary_within, binary_within, if_within, type_of_expr}
use Rattle.reo_exprs.specs.Valued.{truth, same_value, number, bytes_of, unary_value, binary_value, value_of_expr}
use Rattle.reo_exprs.proofs.Corners.{product_has, quotient_has, remainder_has}
use Rattle.reo_exprs.proofs.Joined.{left_inside, right_inside}
use Rattle.reo_exprs.proofs.Options.{some_same, from_and_then, from_map, from_provided, from_if, from_within}
use Rattle.reo_exprs.proofs.Shapes.{is_number, is_text, is_pair, from_numbers}
use Rattle.reo_exprs.proofs.Lies.{Lies, lies_in, in_lies, Lies-Pair, pair_lies, lies_inside}
use Rattle.reo_exprs.proofs.NearType.{type_near, number_near}

module _ (S : Type 0) where
  -- an item of a type of numbers has its number in the interval
  pub number_in : (v : Value) (x : Interval) → Lies S v (int_type x) → (x.low ≤ℤ number v) × (number v ≤ℤ x.high)
  number_in value.Unit x h = absurd h
  number_in (value.Bool b) x h = absurd h
  number_in (value.Int z) x h = h
  number_in (value.Sym k) x h = absurd h
  number_in (value.Text bytes) x h = absurd h
  number_in (value.Pair' m (value.more_of-Couple l r _)) x h = absurd h

  -- an item of a type of texts is no longer than they are
  bytes_in : (v : Value) (n : ℕ) → Lies S v (kinds.Text n) → length (bytes_of v) ≤ n
  bytes_in value.Unit n h = absurd h
  bytes_in (value.Bool b) n h = absurd h
  bytes_in (value.Int z) n h = absurd h
  bytes_in (value.Sym k) n h = absurd h
  bytes_in (value.Text bytes) n h = h.0
  bytes_in (value.Pair' m (value.more_of-Couple l r _)) n h = absurd h

  -- a truth value is of the type of truth values
  bool_in : (b : Bool) (t : Kindred) → kinds.Bool ≡ t → Lies S (values.Bool b) t
  bool_in b t e = subst (λ k. Lies S (values.Bool b) k) e tt

  module _ (v w : Value) (a b : Kindred) (p : Lies S v a) (q : Lies S w b) where
    -- a number that lies in the interval of an operator is of its type
    two_in : (f : Interval → Interval → Interval) (z : ℤ) (t : Kindred) → on_numbers (λ x y. int_type (f x y)) a b ≡ Some t
        → ((x y : Interval) → b ≡ int_type y → (x.low ≤ℤ number v) → (number v ≤ℤ x.high) → (y.low ≤ℤ number w) → (number w ≤ℤ y.high) → ((f x y).low ≤ℤ z) × (z ≤ℤ (f x y).high))
        → Lies S (values.Int z) t
    two_in f z t e has =
        let h = from_numbers (λ x y. int_type (f x y)) a b t e in
        let left = number_in v h.0 (subst (λ k. Lies S v k) h.2 p) in
        let right = number_in w h.1 (subst (λ k. Lies S w k) h.3 q) in
        subst (λ k. Lies S (values.Int z) k) h.4 (has h.0 h.1 h.3 left.0 left.1 right.0 right.1)

    -- a comparison of numbers is a truth value
    truths_in : (c : Bool) (t : Kindred) → on_numbers (λ x y. kinds.Bool) a b ≡ Some t → Lies S (values.Bool c) t
    truths_in c t e = let h = from_numbers (λ x y. kinds.Bool) a b t e in bool_in c t h.4

    -- a type of divisors has none below 1
    positive : (y : Interval) → b ≡ int_type y → is_positive b ≡ true → pos 1 ≤ℤ y.low
    positive y e h = let g = and_parts (int_le (pos 1) y.low) (int_le (pos 1) y.high) (sym (ap is_positive e) ∙ h) in grind (arith, ints)

    -- the value of an operator with two operands is of its type
    binary_in : (op : Binary) (t : Kindred) → may_stand_right op b ≡ true → binary_type op a b ≡ Some t → Lies S (binary_value op v w) t
    binary_in binary.Or t f e = bool_in (truth v || truth w) t (from_provided (is_bool a && is_bool b) kinds.Bool t e).1
    binary_in binary.And t f e = bool_in (truth v && truth w) t (from_provided (is_bool a && is_bool b) kinds.Bool t e).1
    binary_in binary.Eq t f e = bool_in (same_value v w) t (from_provided (joins a b) kinds.Bool t e).1
    binary_in binary.Ne t f e = bool_in (not (same_value v w)) t (from_provided (joins a b) kinds.Bool t e).1
    binary_in binary.Lt t f e = truths_in (int_lt (number v) (number w)) t e
    binary_in binary.Le t f e = truths_in (int_le (number v) (number w)) t e
    binary_in binary.Gt t f e = truths_in (int_lt (number w) (number v)) t e
    binary_in binary.Ge t f e = truths_in (int_le (number w) (number v)) t e
    binary_in binary.Add t f e = two_in sum (number v +ℤ number w) t e (λ x y same c d g h. (omega (arith, ints), omega (arith, ints)))
    binary_in binary.Sub t f e = two_in difference (number v -ℤ number w) t e (λ x y same c d g h. (omega (arith, ints), omega (arith, ints)))
    binary_in binary.Mul t f e = two_in product (number v *ℤ number w) t e (λ x y same c d g h. product_has x y (number v) (number w) c d g h)
    binary_in binary.Div t f e = two_in quotient (int_div (number v) (number w)) t e (λ x y same c d g h. quotient_has x y (number v) (number w) c d g h (positive y same f))
    binary_in binary.Rem t f e = two_in remainder (int_rem (number v) (number w)) t e (λ x y same c d g h. remainder_has x y (number v) (number w) c d g h (positive y same f))
    binary_in binary.Pair t f e =
        let pair : Couple = record { left = v; right = w } in
        let twins : Twins = record { left = a; right = b } in
        subst (λ k. Lies S (values.Pair pair) k) (some_same (kinds.Pair twins) t e) (rw (Lies-Pair S pair twins) (p, q))

  -- and so is that of an operator with one
  unary_in : (op : Unary) (v : Value) (a t : Kindred) → Lies S v a → unary_type op a ≡ Some t → Lies S (unary_value op v) t
  unary_in unary.Not v a t p e = bool_in (not (truth v)) t (from_provided (is_bool a) kinds.Bool t e).1
  unary_in unary.Minus v a t p e =
      let h = from_map (λ x. int_type (negated x)) (interval_of a) t e in
      let n = number_in v h.0 (subst (λ k. Lies S v k) (is_number a h.0 h.1) p) in
      subst (λ k. Lies S (values.Int (neg_ℤ (number v))) k) h.2 (omega (arith, ints), omega (arith, ints))
  unary_in unary.First v a t p e =
      let h = from_map (λ y. y.left) (twins_of a) t e in
      let x = pair_lies S h.0 v (subst (λ k. Lies S v k) (is_pair a h.0 h.1) p) in
      subst (λ k. Lies S (left_of v) k) h.2 (subst (λ w. Lies S w h.0.left) (sym (ap left_of x.1 ∙ left_of-Pair x.0)) x.2)
  unary_in unary.Second v a t p e =
      let h = from_map (λ y. y.right) (twins_of a) t e in
      let x = pair_lies S h.0 v (subst (λ k. Lies S v k) (is_pair a h.0 h.1) p) in
      subst (λ k. Lies S (right_of v) k) h.2 (subst (λ w. Lies S w h.0.right) (sym (ap right_of x.1 ∙ right_of-Pair x.0)) x.3)
  unary_in unary.Length v a t p e =
      let h = from_map (λ most. kinds.Int (pos 0) (pos most)) (most_of a) t e in
      let n = bytes_in v h.0 (subst (λ k. Lies S v k) (is_text a h.0 h.1) p) in
      subst (λ k. Lies S (values.Int (pos (length (bytes_of v)))) k) h.2 (omega (arith, ints), omega (arith, ints))

  -- a choice between two items of a type is of the type
  chosen : (c : Bool) (v w : Value) (t : Kindred) → Lies S v t → Lies S w t → Lies S (if c then v else w) t
  chosen true v w t p q = p
  chosen false v w t p q = q

  -- a choice is of the join of the two types
  if_in : (c : Bool) (v w : Value) (k a b t : Kindred) → Lies S v a → Lies S w b → if_type k a b ≡ Some t → Lies S (if c then v else w) t
  if_in c v w k a b t p q e =
      let h = from_provided (is_bool k && joins a b) (join_of a b) t e in
      let j = (and_parts (is_bool k) (joins a b) h.0).1 in
      subst (λ u. Lies S (if c then v else w) u) h.1 (chosen c v w (join_of a b) (lies_inside S a (join_of a b) v (left_inside a b j) p) (lies_inside S b (join_of a b) w (right_inside a b j) q))

  -- a number is of the type of itself alone
  int_in : (z : ℤ) → Lies S (values.Int z) (kinds.Int z z)
  int_in z = (omega (arith, ints), omega (arith, ints))

  -- the value of an expression that has a type is of that type
  pub value_in : (e : Expr) (of t : Kindred) (item : Value) → (S → IsWellFormed e) → type_of_expr e of ≡ Some t → Lies S item of → Lies S (value_of_expr e item) t
  unfolding hidden-the_row-Expr-0 hidden-the_row-ExprPair-1 hidden-the_row-ExprTriple-2 hidden
  value_in expr.It of t item s e m = subst (λ k. Lies S item k) (from_within of t e).1 m
  value_in expr.Unit of t item s e m = subst (λ k. Lies S values.Unit k) (some_same kinds.Unit t e) tt
  value_in (expr.Bool b) of t item s e m = bool_in b t (some_same kinds.Bool t e)
  value_in (expr.Int n) of t item s e m = subst (λ k. Lies S (values.Int n) k) (from_within (kinds.Int n n) t e).1 (int_in n)
  value_in (expr.Text bytes) of t item s e m = subst (λ k. Lies S (values.Text bytes) k) (from_provided _ (kinds.Text (length bytes)) t e).1 (omega arith, s)
  value_in (expr.Sym names k) of t item s e m = subst (λ j. Lies S (values.Sym k) j) (some_same (kinds.Sym names) t e) (λ p. (s p).1)
  value_in (expr.One' op m' (expr.more_of-Expr x _)) of t item s e m =
      let h = from_and_then (λ a. unary_within op a) (type_of_expr x of) t e in
      let g = from_and_then within (unary_type op h.0) t h.2 in
      subst (λ k. Lies S (unary_value op (value_of_expr x item)) k) (from_within g.0 t g.2).1 (unary_in op (value_of_expr x item) h.0 g.0 (value_in x of h.0 item s h.1 m) g.1)
  value_in (expr.Two' op m' (expr.more_of-ExprPair x y _)) of t item s e m =
      let h = from_and_then (λ a. option_and_then (λ b. binary_within op a b) (type_of_expr y of)) (type_of_expr x of) t e in
      let g = from_and_then (λ b. binary_within op h.0 b) (type_of_expr y of) t h.2 in
      let i = from_if (may_stand_right op g.0) (option_and_then within (binary_type op h.0 g.0)) t g.2 in
      let j = from_and_then within (binary_type op h.0 g.0) t i.1 in
      subst (λ k. Lies S (binary_value op (value_of_expr x item) (value_of_expr y item)) k) (from_within j.0 t j.2).1
      (binary_in (value_of_expr x item) (value_of_expr y item) h.0 g.0 (value_in x of h.0 item (λ p. (s p).0) h.1 m) (value_in y of g.0 item (λ p. (s p).1) g.1 m) op j.0 i.0 j.1)
  value_in (expr.If' m' (expr.more_of-ExprTriple c x y _)) of t item s e m =
      let f = from_and_then (λ a. option_and_then (λ b. option_and_then (λ d. if_within a b d) (type_of_expr y of)) (type_of_expr x of)) (type_of_expr c of) t e in
      let h = from_and_then (λ b. option_and_then (λ d. if_within f.0 b d) (type_of_expr y of)) (type_of_expr x of) t f.2 in
      let g = from_and_then (λ d. if_within f.0 h.0 d) (type_of_expr y of) t h.2 in
      let j = from_and_then within (if_type f.0 h.0 g.0) t g.2 in
      subst (λ k. Lies S (if truth (value_of_expr c item) then value_of_expr x item else value_of_expr y item) k) (from_within j.0 t j.2).1
      (if_in (truth (value_of_expr c item)) (value_of_expr x item) (value_of_expr y item) f.0 h.0 g.0 j.0 (value_in x of h.0 item (λ p. (s p).1) h.1 m) (value_in y of g.0 item (λ p. (s p).2) g.1 m) j.1)

-- the value of a sound expression that has a type is of that type
pub value_in_type : (e : Expr) (of t : Kindred) (item : Value) → IsWellFormed e → type_of_expr e of ≡ Some t → IsIn item of → IsIn (value_of_expr e item) t
value_in_type e of t item s h m = in_lies (Unit {0}) tt (value_of_expr e item) t (value_in (Unit {0}) e of t item (λ p. s) h (lies_in (Unit {0}) item of m))

-- the number of the value of an expression that has a type is near
pub value_near : (e : Expr) (of t : Kindred) (item : Value) → type_of_expr e of ≡ Some t → IsIn item of → is_near (number (value_of_expr e item)) ≡ true
value_near e of t item h m = number_near ⊥ (value_of_expr e item) t (value_in ⊥ e of t item (λ p. absurd p) h (lies_in ⊥ item of m)) (type_near e of t h)
