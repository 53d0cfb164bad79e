-- What is seen of the value of an expression.
use Rattle.std.proofs.Common.{Bor, ◌+◌, true, false, ◌&&◌, ◌≡◌, ◌≢◌, ◌∙◌, ℤ, pos, Some, ap, sym, subst, refl, arith}
use Rattle.std.proofs.lemmas.Bool.{and_parts}
use Rattle.std.specs.Prelude.{◌≤ℤ◌, int_le, option_and_then}
use Rattle.std.proofs.lemmas.Int.{ints}
use denote.Hole.Carrier.{hidden}
use Rattle.reo_values.specs.declared.value.Value as value
use Rattle.reo_values.specs.declared.value.Value.{Value}
use Rattle.reo_values.specs.declared.value.Value.TheVariants as values
use Rattle.reo_values.specs.declared.value.Value.TheBlock.{hidden-the_row-Couple-0}
use Rattle.reo_values.specs.declared.value.Couple.{Couple}
use Rattle.reo_values.specs.declared.kindred.Kindred.{Kindred}
use Rattle.reo_values.specs.declared.kindred.Kindred.TheVariants as kinds
use Rattle.reo_values.specs.declared.operator.Unary.{Unary}
use Rattle.reo_values.specs.declared.operator.Binary.TheVariants as binary
use Rattle.reo_values.specs.declared.operator.Binary.{Binary}
use Rattle.reo_values.specs.Kind.{IsIn}
use Rattle.reo_values.specs.Pair.{left_of, right_of}
use Rattle.reo_exprs.proofs.Pairs.{left_of-Pair, right_of-Pair}
use Rattle.reo_exprs.specs.declared.expr.Expr.{Expr}
use Rattle.reo_exprs.specs.declared.expr.Expr.TheVariants as exprs
use Rattle.reo_exprs.specs.declared.expr.ExprPair.{ExprPair}
use Rattle.reo_exprs.specs.declared.expr.ExprTriple.{ExprTriple}
use Rattle.reo_exprs.specs.declared.interval.Interval.{Interval}
use Rattle.reo_exprs.specs.declared.view.View.TheVariants as view
use Rattle.reo_exprs.specs.declared.view.View.{View}
use Rattle.reo_exprs.specs.Interval.{is_near, quotient, remainder}
use Rattle.reo_exprs.specs.Typing.{int_type, type_of_expr, binary_within, binary_type, within, IsTyped, is_positive, may_stand_right}
use Rattle.reo_exprs.specs.Valued.{truth, number, same_value, binary_value, value_of_expr}
use Rattle.reo_exprs.specs.Views.{AreTyped, IsMade, value_of_view, work, work_of_view}
use Rattle.reo_exprs.proofs.Children.{near_value}
use Rattle.reo_exprs.proofs.InType.{value_in, number_in}
use Rattle.reo_exprs.proofs.Lies.{lies_in, Lies}
use Rattle.reo_exprs.proofs.Options.{from_and_then, from_if}
use Rattle.reo_exprs.proofs.Shapes.{from_numbers}
use Rattle.reo_exprs.proofs.Trees.{type-Two, value-Two, work-One, work-Two, work-If}
use Rattle.reo_exprs.proofs.Twinned.{same-Pair, same_Pair-other}

-- the work in an expression with one operand is that in the operand, and 2
pub one_work : (e : Expr) (op : Unary) (x : Expr) → e ≡ exprs.One op x → work e ≡ work x + 2
one_work e op x p = ap work p ∙ work-One op x

-- in one with two it is that in both, and 3
pub two_work : (e : Expr) (op : Binary) (p : ExprPair) → e ≡ exprs.Two op p → work e ≡ work p.left + work p.right + 3
two_work e op p is = ap work is ∙ work-Two op p

-- and in an `if` that in its three parts, and 3
pub if_work : (e : Expr) (p : ExprTriple) → e ≡ exprs.If p → work e ≡ work p.condition + work p.yes + work p.no + 3
if_work e p is = ap work is ∙ work-If p

-- an operator on numbers does not see what is no number
pub by_numbers : (op : Binary) (x y : Value) → op ≢ binary.Or → op ≢ binary.And → op ≢ binary.Eq → op ≢ binary.Ne → op ≢ binary.Pair
    → binary_value op (values.Int (number x)) (values.Int (number y)) ≡ binary_value op x y
by_numbers binary.Or x y a b c d e = absurd (a refl)
by_numbers binary.And x y a b c d e = absurd (b refl)
by_numbers binary.Eq x y a b c d e = absurd (c refl)
by_numbers binary.Ne x y a b c d e = absurd (d refl)
by_numbers binary.Lt x y a b c d e = refl
by_numbers binary.Le x y a b c d e = refl
by_numbers binary.Gt x y a b c d e = refl
by_numbers binary.Ge x y a b c d e = refl
by_numbers binary.Add x y a b c d e = refl
by_numbers binary.Sub x y a b c d e = refl
by_numbers binary.Mul x y a b c d e = refl
by_numbers binary.Div x y a b c d e = refl
by_numbers binary.Rem x y a b c d e = refl
by_numbers binary.Pair x y a b c d e = absurd (e refl)

-- a number of an interval of divisors may be a divisor
positive_number : (low high n : ℤ) → is_positive (kinds.Int low high) ≡ true → low ≤ℤ n → is_positive (kinds.Int n n) ≡ true
positive_number low high n h g =
    let b = and_parts (int_le (pos 1) low) (int_le (pos 1) high) h in
    let c : int_le (pos 1) n ≡ true = grind (arith, ints) in
    (λ i. c i && c i)

-- and so a number of a type that may stand on the right may stand there itself
right_fits : (op : Binary) (a b t : Kindred) (n : ℤ) → may_stand_right op b ≡ true → binary_type op a b ≡ Some t → ((y : Interval) → b ≡ int_type y → y.low ≤ℤ n)
    → may_stand_right op (kinds.Int n n) ≡ true
right_fits binary.Or a b t n f e h = refl
right_fits binary.And a b t n f e h = refl
right_fits binary.Eq a b t n f e h = refl
right_fits binary.Ne a b t n f e h = refl
right_fits binary.Lt a b t n f e h = refl
right_fits binary.Le a b t n f e h = refl
right_fits binary.Gt a b t n f e h = refl
right_fits binary.Ge a b t n f e h = refl
right_fits binary.Add a b t n f e h = refl
right_fits binary.Sub a b t n f e h = refl
right_fits binary.Mul a b t n f e h = refl
right_fits binary.Div a b t n f e h =
    let g = from_numbers (λ x y. int_type (quotient x y)) a b t e in positive_number g.1.low g.1.high n (sym (ap is_positive g.3) ∙ f) (h g.1 g.3)
right_fits binary.Rem a b t n f e h =
    let g = from_numbers (λ x y. int_type (remainder x y)) a b t e in positive_number g.1.low g.1.high n (sym (ap is_positive g.3) ∙ f) (h g.1 g.3)
right_fits binary.Pair a b t n f e h = refl

module _ (op : Binary) (p : ExprPair) (of : Kindred) (item : Value) (typed : IsTyped (exprs.Two op p) of) (member : IsIn item of) where
  -- a divisor is at least 1
  pub divisor_fits : may_stand_right op (kinds.Int (number (value_of_expr p.right item)) (number (value_of_expr p.right item))) ≡ true
  divisor_fits =
      let h = from_and_then (λ a. option_and_then (λ b. binary_within op a b) (type_of_expr p.right of)) (type_of_expr p.left of) typed.0 (sym (type-Two op p of) ∙ typed.1) in
      let g = from_and_then (λ b. binary_within op h.0 b) (type_of_expr p.right of) typed.0 h.2 in
      let i = from_if (may_stand_right op g.0) (option_and_then within (binary_type op h.0 g.0)) typed.0 g.2 in
      let j = from_and_then within (binary_type op h.0 g.0) typed.0 i.1 in
      let lies : Lies ⊥ (value_of_expr p.right item) g.0 = value_in ⊥ p.right of g.0 item (λ q. absurd q) g.1 (lies_in ⊥ item of member) in
      right_fits op h.0 g.0 j.0 (number (value_of_expr p.right item)) i.0 j.1 (λ y e. (number_in ⊥ (value_of_expr p.right item) y (subst (λ k. Lies ⊥ (value_of_expr p.right item) k) e lies)).0)

  -- and a result is near
  pub result_near : is_near (number (binary_value op (value_of_expr p.left item) (value_of_expr p.right item))) ≡ true
  result_near = sym (ap (λ v. is_near (number v)) (value-Two op p item)) ∙ near_value (exprs.Two op p) of typed item member

-- the parts of a pair of expressions that wait are typed
pub waiting : (x : View) (p : (Bor ExprPair)) (of : Kindred) → x ≡ view.Pair p → AreTyped x of → IsTyped p.now.left of × IsTyped p.now.right of
waiting x p of e h = subst (λ v. AreTyped v of) e h

-- their work is that in both parts, and 3
pub waiting_work : (x : View) (p : (Bor ExprPair)) → x ≡ view.Pair p → work_of_view x ≡ work p.now.left + work p.now.right + 3
waiting_work x p e = ap work_of_view e

-- the left part of their value is the value of the left one
pub waiting_left : (x : View) (p : (Bor ExprPair)) (item : Value) → x ≡ view.Pair p → left_of (value_of_view x item) ≡ value_of_expr p.now.left item
waiting_left x p item e = ap (λ v. left_of (value_of_view v item)) e ∙ left_of-Pair (record { left = value_of_expr p.now.left item; right = value_of_expr p.now.right item })

-- and the right part that of the right one
pub waiting_right : (x : View) (p : (Bor ExprPair)) (item : Value) → x ≡ view.Pair p → right_of (value_of_view x item) ≡ value_of_expr p.now.right item
waiting_right x p item e = ap (λ v. right_of (value_of_view v item)) e ∙ right_of-Pair (record { left = value_of_expr p.now.left item; right = value_of_expr p.now.right item })

-- they equal a pair where both parts do
pub waiting_same : (x : View) (p : (Bor ExprPair)) (v : Value) (c : Couple) (item : Value) → x ≡ view.Pair p → v ≡ values.Pair c
    → same_value (value_of_view x item) v ≡ (same_value (value_of_expr p.now.left item) c.left && same_value (value_of_expr p.now.right item) c.right)
waiting_same x p v c item e f =
    (λ i. same_value (value_of_view (e i) item) (f i)) ∙ same-Pair (record { left = value_of_expr p.now.left item; right = value_of_expr p.now.right item }) c

-- they equal no item that is no pair
pub waiting_other : (x : View) (p : (Bor ExprPair)) (v : Value) (item : Value) → x ≡ view.Pair p → ((c : Couple) → v ≡ values.Pair c → ⊥) → same_value (value_of_view x item) v ≡ false
waiting_other x p v item e h = ap (λ w. same_value (value_of_view w item) v) e ∙ same_Pair-other (record { left = value_of_expr p.now.left item; right = value_of_expr p.now.right item }) v h

-- and another pair that waits, where both parts do
pub both_waiting : (x y : View) (p q : Bor ExprPair) (item : Value) → x ≡ view.Pair p → y ≡ view.Pair q
    → same_value (value_of_view x item) (value_of_view y item)
    ≡ (same_value (value_of_expr p.now.left item) (value_of_expr q.now.left item) && same_value (value_of_expr p.now.right item) (value_of_expr q.now.right item))
both_waiting x y p q item e f =
    waiting_same x p (value_of_view y item) (record { left = value_of_expr q.now.left item; right = value_of_expr q.now.right item }) item e (ap (λ v. value_of_view v item) f)

-- what is made and is no pair has no pair's value
pub seen_pair : (y : View) (item : Value) → IsMade y → ((p : Bor ExprPair) → y ≡ view.Pair p → ⊥) → (c : Couple) → value_of_view y item ≡ values.Pair c → ⊥
unfolding hidden-the_row-Couple-0 hidden
seen_pair view.Unit item m h c e = absurd (cc)
seen_pair (view.Bool b) item m h c e = absurd (cc)
seen_pair (view.Int z) item m h c e = absurd (cc)
seen_pair (view.Sym k) item m h c e = absurd (cc)
seen_pair (view.Text bytes) item m h c e = absurd (cc)
seen_pair (view.Pair p) item m h c e = h p refl
seen_pair (view.Item part) item m h c e = m

-- the left part of an item that is a pair
pub pair_left : (x : View) (part : Bor Value) (c : Couple) (item : Value) → x ≡ view.Item part → part.now ≡ values.Pair c → left_of (value_of_view x item) ≡ c.left
pair_left x part c item e f = ap (λ v. left_of (value_of_view v item)) e ∙ ap left_of f ∙ left_of-Pair c

-- and its right part
pub pair_right : (x : View) (part : Bor Value) (c : Couple) (item : Value) → x ≡ view.Item part → part.now ≡ values.Pair c → right_of (value_of_view x item) ≡ c.right
pair_right x part c item e f = ap (λ v. right_of (value_of_view v item)) e ∙ ap right_of f ∙ right_of-Pair c

-- an item of the type of truth values is one
bool_value : (v : Value) → Lies ⊥ v kinds.Bool → v ≡ values.Bool (truth v)
bool_value value.Unit h = absurd h
bool_value (value.Bool b) h = refl
bool_value (value.Int z) h = absurd h
bool_value (value.Sym k) h = absurd h
bool_value (value.Text bytes) h = absurd h
bool_value (value.Pair' m (value.more_of-Couple l r _)) h = absurd h

-- the value of an expression of truth values is one
pub truth_told : (e : Expr) (of : Kindred) (item : Value) → type_of_expr e of ≡ Some kinds.Bool → IsIn item of → value_of_expr e item ≡ values.Bool (truth (value_of_expr e item))
truth_told e of item h m = bool_value (value_of_expr e item) (value_in ⊥ e of kinds.Bool item (λ q. absurd q) h (lies_in ⊥ item of m))

-- an item that is no pair is its own left part
pub left_of-other : (v : Value) → ((c : Couple) → v ≡ values.Pair c → ⊥) → v ≡ left_of v
unfolding hidden-the_row-Couple-0 hidden
left_of-other value.Unit other = refl
left_of-other (value.Bool b) other = refl
left_of-other (value.Int z) other = refl
left_of-other (value.Sym k) other = refl
left_of-other (value.Text bytes) other = refl
left_of-other (value.Pair' m (value.more_of-Couple l r value.end_of-Couple)) other = absurd (other (record { left = l; right = r }) refl)

-- and its own right part
pub right_of-other : (v : Value) → ((c : Couple) → v ≡ values.Pair c → ⊥) → v ≡ right_of v
unfolding hidden-the_row-Couple-0 hidden
right_of-other value.Unit other = refl
right_of-other (value.Bool b) other = refl
right_of-other (value.Int z) other = refl
right_of-other (value.Sym k) other = refl
right_of-other (value.Text bytes) other = refl
right_of-other (value.Pair' m (value.more_of-Couple l r value.end_of-Couple)) other = absurd (other (record { left = l; right = r }) refl)
