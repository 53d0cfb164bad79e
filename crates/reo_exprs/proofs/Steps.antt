-- The kind and the type of an expression, from those of its parts.
use Rattle.std.proofs.Common.{true, ◌≡◌, ◌∙◌, pos, Option, Some, None, ap, sym, refl}
use Rattle.std.proofs.lemmas.Bool.{and_parts}
use Rattle.std.specs.Prelude.{option_and_then, option_map, IsTrue, if◌then◌else◌}
use denote.Hole.Carrier.{hidden}
use Rattle.reo_values.specs.declared.kindred.Kindred as kindred
use Rattle.reo_values.specs.declared.kindred.Kindred.{Kindred}
use Rattle.reo_values.specs.declared.kindred.Kindred.TheVariants as kinds
use Rattle.reo_values.specs.declared.kindred.Kindred.TheBlock.{hidden-the_row-Twins-0}
use Rattle.reo_values.specs.declared.kindred.Twins.{Twins}
use Rattle.reo_values.specs.declared.operator.Unary.{Unary}
use Rattle.reo_values.specs.declared.operator.Binary.{Binary}
use Rattle.reo_exprs.specs.declared.expr.Expr as expr
use Rattle.reo_exprs.specs.declared.expr.Expr.{Expr}
use Rattle.reo_exprs.specs.declared.expr.Expr.TheVariants as exprs
use Rattle.reo_exprs.specs.declared.expr.Expr.TheBlock.{hidden-the_row-Expr-0, hidden-the_row-ExprPair-1, hidden-the_row-ExprTriple-2}
use Rattle.reo_exprs.specs.declared.expr.ExprPair.{ExprPair}
use Rattle.reo_exprs.specs.declared.expr.ExprTriple.{ExprTriple}
use Rattle.reo_exprs.specs.Kinds.{kind_of, join_of, twins_of, interval_of, is_within}
use Rattle.reo_exprs.specs.declared.interval.Interval.{Interval}
use Rattle.reo_exprs.specs.Interval.{is_near_interval}
use Rattle.reo_exprs.proofs.Shapes.{is_number}
use Rattle.reo_exprs.specs.Typing.{within, kind_of_expr, type_of_expr, unary_kind, binary_kind, if_kind, unary_type, binary_type, if_type, unary_within, binary_within, if_within}
use Rattle.reo_exprs.proofs.Options.{some_same, from_and_then, from_map}
use Rattle.reo_exprs.proofs.Trees.{kind-One, kind-Two, kind-If, type-One, type-Two, type-If}
use Rattle.reo_exprs.proofs.Twinned.{join_of-Pair, join_of_Pair-other, twins_of-Pair, twins_of-other, kind_of-Pair, Twins_of-equal}

-- a part of a type of pairs
pub part_told : (f : Twins → Kindred) (k : Kindred) (y z : Twins) → k ≡ kinds.Pair y → z ≡ y → Some (f z) ≡ option_map f (twins_of k)
part_told f k y z p e = ap (λ t. Some (f t)) e ∙ sym (ap (λ o. option_map f o) (ap twins_of p ∙ twins_of-Pair y))

-- another type has no such part
pub part_none : (f : Twins → Kindred) (k : Kindred) → ((y : Twins) → k ≡ kinds.Pair y → ⊥) → None ≡ option_map f (twins_of k)
part_none f k other = sym (ap (λ o. option_map f o) (twins_of-other k other))

-- a kind has no bounds to forget
pub kind_twice : (k : Kindred) → kind_of (kind_of k) ≡ kind_of k
unfolding hidden-the_row-Twins-0 hidden
kind_twice kindred.Unit = refl
kind_twice kindred.Bool = refl
kind_twice (kindred.Int a b) = refl
kind_twice (kindred.Sym a) = refl
kind_twice (kindred.Text a) = refl
kind_twice (kindred.Pair' m (kindred.more_of-Twins a b kindred.end_of-Twins)) =
    Twins_of-equal (record { left = kind_of (kind_of a); right = kind_of (kind_of b) }) (record { left = kind_of a; right = kind_of b }) (kind_twice a) (kind_twice b)

-- equal types of pairs have equal parts
pub kind_parts : (x y : Twins) → kinds.Pair x ≡ kinds.Pair y → x ≡ y
kind_parts x y e = some_same x y (sym (twins_of-Pair x) ∙ ap twins_of e ∙ twins_of-Pair y)

-- the left part of a kind is a kind
pub left_kind : (k : Kindred) → kind_of k ≡ k → option_map kind_of (option_map (λ t. t.left) (twins_of k)) ≡ option_map (λ t. t.left) (twins_of k)
unfolding hidden-the_row-Twins-0 hidden
left_kind kindred.Unit e = refl
left_kind kindred.Bool e = refl
left_kind (kindred.Int a b) e = refl
left_kind (kindred.Sym a) e = refl
left_kind (kindred.Text a) e = refl
left_kind (kindred.Pair' m (kindred.more_of-Twins a b kindred.end_of-Twins)) e =
    ap (λ t. Some t.left) (kind_parts (record { left = kind_of a; right = kind_of b }) (record { left = a; right = b }) e)

-- and so is the right one
pub right_kind : (k : Kindred) → kind_of k ≡ k → option_map kind_of (option_map (λ t. t.right) (twins_of k)) ≡ option_map (λ t. t.right) (twins_of k)
unfolding hidden-the_row-Twins-0 hidden
right_kind kindred.Unit e = refl
right_kind kindred.Bool e = refl
right_kind (kindred.Int a b) e = refl
right_kind (kindred.Sym a) e = refl
right_kind (kindred.Text a) e = refl
right_kind (kindred.Pair' m (kindred.more_of-Twins a b kindred.end_of-Twins)) e =
    ap (λ t. Some t.right) (kind_parts (record { left = kind_of a; right = kind_of b }) (record { left = a; right = b }) e)

-- a pair of the kinds of the parts is the kind of a type of pairs
pub kind_pair : (k : Kindred) (y z : Twins) (l r : Kindred) (made : Twins) → k ≡ kinds.Pair y → z ≡ y → l ≡ kind_of z.left → r ≡ kind_of z.right
    → made ≡ record { left = l; right = r } → kinds.Pair made ≡ kind_of k
kind_pair k y z l r made p e f g h =
    ap kinds.Pair h ∙ Twins_of-equal (record { left = l; right = r }) (record { left = kind_of y.left; right = kind_of y.right }) (f ∙ ap (λ t. kind_of t.left) e) (g ∙ ap (λ t. kind_of t.right) e)
    ∙ sym (kind_of-Pair y) ∙ sym (ap kind_of p)

-- a pair of the joins of the parts is the join of two types of pairs
pub join_pair : (a b : Kindred) (x y x' y' : Twins) (l r : Kindred) (made : Twins) → a ≡ kinds.Pair x → b ≡ kinds.Pair y → x' ≡ x → y' ≡ y
    → l ≡ join_of x'.left y'.left → r ≡ join_of x'.right y'.right → made ≡ record { left = l; right = r } → kinds.Pair made ≡ join_of a b
join_pair a b x y x' y' l r made p q e f g h m =
    ap kinds.Pair m
    ∙ Twins_of-equal (record { left = l; right = r }) (record { left = join_of x.left y.left; right = join_of x.right y.right })
    (g ∙ (λ i. join_of (e i).left (f i).left)) (h ∙ (λ i. join_of (e i).right (f i).right))
    ∙ sym (join_of-Pair x y) ∙ sym (λ i. join_of (p i) (q i))

-- the join of a type of pairs with another type is the former
pub join_plain : (a b : Kindred) (x : Twins) → a ≡ kinds.Pair x → ((y : Twins) → b ≡ kinds.Pair y → ⊥) → a ≡ join_of a b
join_plain a b x p other = p ∙ sym (join_of_Pair-other x b other) ∙ sym (ap (λ k. join_of k b) p)

-- the left part of a type whose intervals are near is such a type
left_part : (k : Kindred) → is_within k ≡ true → option_and_then within (option_map (λ t. t.left) (twins_of k)) ≡ option_map (λ t. t.left) (twins_of k)
unfolding hidden-the_row-Twins-0 hidden
left_part kindred.Unit h = refl
left_part kindred.Bool h = refl
left_part (kindred.Int a b) h = refl
left_part (kindred.Sym a) h = refl
left_part (kindred.Text a) h = refl
left_part (kindred.Pair' m (kindred.more_of-Twins a b kindred.end_of-Twins)) h = ap (λ c. if c then Some a else None) (and_parts (is_within a) (is_within b) h).0

-- and so is the right one
right_part : (k : Kindred) → is_within k ≡ true → option_and_then within (option_map (λ t. t.right) (twins_of k)) ≡ option_map (λ t. t.right) (twins_of k)
unfolding hidden-the_row-Twins-0 hidden
right_part kindred.Unit h = refl
right_part kindred.Bool h = refl
right_part (kindred.Int a b) h = refl
right_part (kindred.Sym a) h = refl
right_part (kindred.Text a) h = refl
right_part (kindred.Pair' m (kindred.more_of-Twins a b kindred.end_of-Twins)) h = ap (λ c. if c then Some b else None) (and_parts (is_within a) (is_within b) h).1

-- the same of a type that was found near
pub left_within : (k : Kindred) → IsTrue (is_within k) → option_and_then within (option_map (λ t. t.left) (twins_of k)) ≡ option_map (λ t. t.left) (twins_of k)
left_within k h = left_part k h

-- and of its right part
pub right_within : (k : Kindred) → IsTrue (is_within k) → option_and_then within (option_map (λ t. t.right) (twins_of k)) ≡ option_map (λ t. t.right) (twins_of k)
right_within k h = right_part k h

-- the interval of a type whose intervals are near is near
pub interval_within : (k : Kindred) (x : Interval) → interval_of k ≡ Some x → IsTrue (is_within k) → IsTrue (is_near_interval x)
interval_within k x e h = sym (ap is_within (is_number k x e)) ∙ h

-- what is the kind of a type is a kind
from_kind : (z k : Kindred) → kind_of z ≡ k → kind_of k ≡ k
from_kind z k e = sym (ap kind_of e) ∙ kind_twice z ∙ e

-- what an expression has as its kind is a kind
pub is_kind : (e : Expr) (of k : Kindred) → kind_of_expr e of ≡ Some k → kind_of k ≡ k
unfolding hidden-the_row-Expr-0 hidden-the_row-ExprPair-1 hidden-the_row-ExprTriple-2 hidden
is_kind expr.It of k e = from_kind of k (some_same (kind_of of) k e)
is_kind expr.Unit of k e = from_kind kinds.Unit k (some_same kinds.Unit k e)
is_kind (expr.Bool b) of k e = from_kind kinds.Bool k (some_same kinds.Bool k e)
is_kind (expr.Int n) of k e = from_kind (kinds.Int n n) k (some_same (kinds.Int (pos 0) (pos 0)) k e)
is_kind (expr.Text bytes) of k e = from_kind (kinds.Text 0) k (some_same (kinds.Text 0) k e)
is_kind (expr.Sym names j) of k e = from_kind (kinds.Sym names) k (some_same (kinds.Sym names) k e)
is_kind (expr.One' op m' (expr.more_of-Expr x _)) of k e =
    let h = from_and_then (λ a. unary_kind op a) (kind_of_expr x of) k e in
    let g = from_map kind_of (unary_type op h.0) k h.2 in
    from_kind g.0 k g.2
is_kind (expr.Two' op m' (expr.more_of-ExprPair x y _)) of k e =
    let h = from_and_then (λ a. option_and_then (λ b. binary_kind op a b) (kind_of_expr y of)) (kind_of_expr x of) k e in
    let g = from_and_then (λ b. binary_kind op h.0 b) (kind_of_expr y of) k h.2 in
    let j = from_map kind_of (binary_type op h.0 g.0) k g.2 in
    from_kind j.0 k j.2
is_kind (expr.If' m' (expr.more_of-ExprTriple c x y _)) of k e =
    let f = from_and_then (λ a. option_and_then (λ b. option_and_then (λ d. if_kind a b d) (kind_of_expr y of)) (kind_of_expr x of)) (kind_of_expr c of) k e in
    let h = from_and_then (λ b. option_and_then (λ d. if_kind f.0 b d) (kind_of_expr y of)) (kind_of_expr x of) k f.2 in
    let g = from_and_then (λ d. if_kind f.0 h.0 d) (kind_of_expr y of) k h.2 in
    let j = from_map kind_of (if_type f.0 h.0 g.0) k g.2 in
    from_kind j.0 k j.2

-- two steps in a row that both have values
two_steps : (f : Kindred → Kindred → Option Kindred) (l r : Option Kindred) (a b : Kindred) → l ≡ Some a → r ≡ Some b → option_and_then (λ x. option_and_then (λ y. f x y) r) l ≡ f a b
two_steps f l r a b p q = λ i. option_and_then (λ x. option_and_then (λ y. f x y) (q i)) (p i)

-- and two of which one has none
two_missing : (f : Kindred → Kindred → Option Kindred) (l r : Option Kindred) → ((x y : Kindred) → l ≡ Some x → r ≡ Some y → ⊥) → option_and_then (λ x. option_and_then (λ y. f x y) r) l ≡ None
two_missing f None r h = refl
two_missing f (Some x) None h = refl
two_missing f (Some x) (Some y) h = absurd (h x y refl refl)

-- three steps in a row that all have values
three_steps : (f : Kindred → Kindred → Kindred → Option Kindred) (c l r : Option Kindred) (k a b : Kindred) → c ≡ Some k → l ≡ Some a → r ≡ Some b
    → option_and_then (λ z. option_and_then (λ x. option_and_then (λ y. f z x y) r) l) c ≡ f k a b
three_steps f c l r k a b o p q = λ i. option_and_then (λ z. option_and_then (λ x. option_and_then (λ y. f z x y) (q i)) (p i)) (o i)

-- and three of which one has none
three_missing : (f : Kindred → Kindred → Kindred → Option Kindred) (c l r : Option Kindred) → ((z x y : Kindred) → c ≡ Some z → l ≡ Some x → r ≡ Some y → ⊥)
    → option_and_then (λ z. option_and_then (λ x. option_and_then (λ y. f z x y) r) l) c ≡ None
three_missing f None l r h = refl
three_missing f (Some z) None r h = refl
three_missing f (Some z) (Some x) None h = refl
three_missing f (Some z) (Some x) (Some y) h = absurd (h z x y refl refl refl)

module _ (e : Expr) (of : Kindred) (made : Option Kindred) where
  -- the kind of an expression with one operand, from that of the operand
  pub one_kinded : (op : Unary) (x : Expr) (k : Kindred) → e ≡ exprs.One op x → Some k ≡ kind_of_expr x of → made ≡ unary_kind op k → made ≡ kind_of_expr e of
  one_kinded op x k p q h = h ∙ ap (λ o. option_and_then (λ a. unary_kind op a) o) q ∙ sym (kind-One op x of) ∙ sym (ap (λ f. kind_of_expr f of) p)

  -- its type, from that of the operand
  pub one_typed : (op : Unary) (x : Expr) (k : Kindred) → e ≡ exprs.One op x → Some k ≡ type_of_expr x of → made ≡ unary_within op k → made ≡ type_of_expr e of
  one_typed op x k p q h = h ∙ ap (λ o. option_and_then (λ a. unary_within op a) o) q ∙ sym (type-One op x of) ∙ sym (ap (λ f. type_of_expr f of) p)

  -- it has no kind where the operand has none
  pub one_unkinded : (op : Unary) (x : Expr) → e ≡ exprs.One op x → None ≡ kind_of_expr x of → None ≡ kind_of_expr e of
  one_unkinded op x p q = ap (λ o. option_and_then (λ a. unary_kind op a) o) q ∙ sym (kind-One op x of) ∙ sym (ap (λ f. kind_of_expr f of) p)

  -- and no type where the operand has none
  pub one_untyped : (op : Unary) (x : Expr) → e ≡ exprs.One op x → None ≡ type_of_expr x of → None ≡ type_of_expr e of
  one_untyped op x p q = ap (λ o. option_and_then (λ a. unary_within op a) o) q ∙ sym (type-One op x of) ∙ sym (ap (λ f. type_of_expr f of) p)

  -- the kind of an expression with two operands, from theirs
  pub two_kinded : (op : Binary) (p : ExprPair) (a b : Kindred) → e ≡ exprs.Two op p → Some a ≡ kind_of_expr p.left of → Some b ≡ kind_of_expr p.right of → made ≡ binary_kind op a b
      → made ≡ kind_of_expr e of
  two_kinded op p a b is q r h = h ∙ sym (two_steps (λ x y. binary_kind op x y) _ _ a b (sym q) (sym r)) ∙ sym (kind-Two op p of) ∙ sym (ap (λ f. kind_of_expr f of) is)

  -- its type, from theirs
  pub two_typed : (op : Binary) (p : ExprPair) (a b : Kindred) → e ≡ exprs.Two op p → Some a ≡ type_of_expr p.left of → Some b ≡ type_of_expr p.right of → made ≡ binary_within op a b
      → made ≡ type_of_expr e of
  two_typed op p a b is q r h = h ∙ sym (two_steps (λ x y. binary_within op x y) _ _ a b (sym q) (sym r)) ∙ sym (type-Two op p of) ∙ sym (ap (λ f. type_of_expr f of) is)

  -- it has no kind where one of them has none
  pub two_unkinded : (op : Binary) (p : ExprPair) (l r : Option Kindred) → e ≡ exprs.Two op p → l ≡ kind_of_expr p.left of → r ≡ kind_of_expr p.right of
      → ((x y : Kindred) → l ≡ Some x → r ≡ Some y → ⊥) → None ≡ kind_of_expr e of
  two_unkinded op p l r is q s h =
      sym (two_missing (λ x y. binary_kind op x y) (kind_of_expr p.left of) (kind_of_expr p.right of) (λ x y f g. h x y (q ∙ f) (s ∙ g))) ∙ sym (kind-Two op p of) ∙ sym (ap (λ f. kind_of_expr f of) is)

  -- and no type where one of them has none
  pub two_untyped : (op : Binary) (p : ExprPair) (l r : Option Kindred) → e ≡ exprs.Two op p → l ≡ type_of_expr p.left of → r ≡ type_of_expr p.right of
      → ((x y : Kindred) → l ≡ Some x → r ≡ Some y → ⊥) → None ≡ type_of_expr e of
  two_untyped op p l r is q s h =
      sym (two_missing (λ x y. binary_within op x y) (type_of_expr p.left of) (type_of_expr p.right of) (λ x y f g. h x y (q ∙ f) (s ∙ g))) ∙ sym (type-Two op p of) ∙ sym (ap (λ f. type_of_expr f of) is)

  -- the kind of an `if`, from those of its parts
  pub if_kinded : (p : ExprTriple) (k a b : Kindred) → e ≡ exprs.If p → Some k ≡ kind_of_expr p.condition of → Some a ≡ kind_of_expr p.yes of → Some b ≡ kind_of_expr p.no of
      → made ≡ if_kind k a b → made ≡ kind_of_expr e of
  if_kinded p k a b is o q r h = h ∙ sym (three_steps (λ z x y. if_kind z x y) _ _ _ k a b (sym o) (sym q) (sym r)) ∙ sym (kind-If p of) ∙ sym (ap (λ f. kind_of_expr f of) is)

  -- its type, from theirs
  pub if_typed : (p : ExprTriple) (k a b : Kindred) → e ≡ exprs.If p → Some k ≡ type_of_expr p.condition of → Some a ≡ type_of_expr p.yes of → Some b ≡ type_of_expr p.no of
      → made ≡ if_within k a b → made ≡ type_of_expr e of
  if_typed p k a b is o q r h = h ∙ sym (three_steps (λ z x y. if_within z x y) _ _ _ k a b (sym o) (sym q) (sym r)) ∙ sym (type-If p of) ∙ sym (ap (λ f. type_of_expr f of) is)

  -- it has no kind where a part has none
  pub if_unkinded : (p : ExprTriple) (c l r : Option Kindred) → e ≡ exprs.If p → c ≡ kind_of_expr p.condition of → l ≡ kind_of_expr p.yes of → r ≡ kind_of_expr p.no of
      → ((z x y : Kindred) → c ≡ Some z → l ≡ Some x → r ≡ Some y → ⊥) → None ≡ kind_of_expr e of
  if_unkinded p c l r is o q s h =
      sym (three_missing (λ z x y. if_kind z x y) (kind_of_expr p.condition of) (kind_of_expr p.yes of) (kind_of_expr p.no of) (λ z x y d f g. h z x y (o ∙ d) (q ∙ f) (s ∙ g)))
      ∙ sym (kind-If p of) ∙ sym (ap (λ f. kind_of_expr f of) is)

  -- and no type where a part has none
  pub if_untyped : (p : ExprTriple) (c l r : Option Kindred) → e ≡ exprs.If p → c ≡ type_of_expr p.condition of → l ≡ type_of_expr p.yes of → r ≡ type_of_expr p.no of
      → ((z x y : Kindred) → c ≡ Some z → l ≡ Some x → r ≡ Some y → ⊥) → None ≡ type_of_expr e of
  if_untyped p c l r is o q s h =
      sym (three_missing (λ z x y. if_within z x y) (type_of_expr p.condition of) (type_of_expr p.yes of) (type_of_expr p.no of) (λ z x y d f g. h z x y (o ∙ d) (q ∙ f) (s ∙ g)))
      ∙ sym (type-If p of) ∙ sym (ap (λ f. type_of_expr f of) is)
