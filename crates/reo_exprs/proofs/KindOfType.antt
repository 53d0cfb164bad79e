-- The kind of an expression is the kind of its type, where it has one.
use Rattle.std.proofs.Common.{Bool, true, false, ◌&&◌, ◌≡◌, ◌∙◌, length, Option, None, Some, ap, sym, refl}
use Rattle.std.specs.Cmp.{both_ways}
use Rattle.std.proofs.lemmas.Bool.{and_parts}
use Rattle.std.specs.Prelude.{option_and_then, option_map}
use denote.Hole.Carrier.{hidden}
use Rattle.reo_values.specs.declared.kindred.Kindred as kindred
use Rattle.reo_values.specs.declared.kindred.Kindred.{Kindred}
use Rattle.reo_values.specs.declared.kindred.Kindred.TheVariants as kinds
use Rattle.reo_values.specs.declared.kindred.Kindred.TheBlock.{hidden-the_row-Twins-0}
use Rattle.reo_values.specs.declared.operator.Unary.TheVariants as unary
use Rattle.reo_values.specs.declared.operator.Unary.{Unary}
use Rattle.reo_values.specs.declared.operator.Binary.TheVariants as binary
use Rattle.reo_values.specs.declared.operator.Binary.{Binary}
use Rattle.reo_exprs.specs.declared.expr.Expr as expr
use Rattle.reo_exprs.specs.declared.expr.Expr.{Expr}
use Rattle.reo_exprs.specs.declared.expr.Expr.TheBlock.{hidden-the_row-Expr-0, hidden-the_row-ExprPair-1, hidden-the_row-ExprTriple-2}
use Rattle.reo_exprs.specs.declared.interval.Interval.{Interval}
use Rattle.reo_exprs.specs.Interval.{sum, difference, product, quotient, remainder}
use Rattle.reo_exprs.specs.Kinds.{kind_of, joins, join_of, is_bool}
use Rattle.reo_exprs.specs.Typing.{provided, within, int_type, on_numbers, may_stand_right, unary_type, binary_type, if_type, unary_kind, binary_kind, if_kind, unary_within, binary_within, if_within, kind_of_expr, type_of_expr}
use Rattle.reo_exprs.proofs.Choices.{join_kind}
use Rattle.reo_exprs.proofs.Kinded.{join_by_kind}
use Rattle.reo_exprs.proofs.Options.{from_and_then, from_provided, from_if, from_within}
use Rattle.reo_exprs.proofs.Steps.{kind_twice}
use Rattle.reo_exprs.proofs.Twinned.{Twins_of-equal}

-- kinds join where the types do
joins_kinds : (s t : Kindred) → joins (kind_of s) (kind_of t) ≡ joins s t
joins_kinds s t =
    let kinds = join_by_kind (kind_of s) (kind_of t) in
    let types = join_by_kind s t in
    both_ways (joins (kind_of s) (kind_of t)) (joins s t)
    (λ e. types.1 (sym (kind_twice s) ∙ kinds.0 e ∙ kind_twice t))
    (λ e. kinds.1 (kind_twice s ∙ types.0 e ∙ sym (kind_twice t)))

-- the kind of a type of truth values is one
bool_kind : (k : Kindred) → is_bool (kind_of k) ≡ is_bool k
bool_kind kindred.Unit = refl
bool_kind kindred.Bool = refl
bool_kind (kindred.Int a b) = refl
bool_kind (kindred.Sym a) = refl
bool_kind (kindred.Text a) = refl
bool_kind (kindred.Pair' n (kindred.more_of-Twins a b kindred.end_of-Twins)) = refl

-- operators with one operand, on a kind and on a type
unary_kinds : (op : Unary) (k : Kindred) → option_map kind_of (unary_type op (kind_of k)) ≡ option_map kind_of (unary_type op k)
unfolding hidden-the_row-Twins-0 hidden
unary_kinds unary.Not k = ap (λ b. option_map kind_of (provided b kinds.Bool)) (bool_kind k)
unary_kinds unary.Minus kindred.Unit = refl
unary_kinds unary.Minus kindred.Bool = refl
unary_kinds unary.Minus (kindred.Int a b) = refl
unary_kinds unary.Minus (kindred.Sym a) = refl
unary_kinds unary.Minus (kindred.Text a) = refl
unary_kinds unary.Minus (kindred.Pair' n (kindred.more_of-Twins a b kindred.end_of-Twins)) = refl
unary_kinds unary.First kindred.Unit = refl
unary_kinds unary.First kindred.Bool = refl
unary_kinds unary.First (kindred.Int a b) = refl
unary_kinds unary.First (kindred.Sym a) = refl
unary_kinds unary.First (kindred.Text a) = refl
unary_kinds unary.First (kindred.Pair' n (kindred.more_of-Twins a b kindred.end_of-Twins)) = ap (λ k. Some k) (kind_twice a)
unary_kinds unary.Second kindred.Unit = refl
unary_kinds unary.Second kindred.Bool = refl
unary_kinds unary.Second (kindred.Int a b) = refl
unary_kinds unary.Second (kindred.Sym a) = refl
unary_kinds unary.Second (kindred.Text a) = refl
unary_kinds unary.Second (kindred.Pair' n (kindred.more_of-Twins a b kindred.end_of-Twins)) = ap (λ k. Some k) (kind_twice b)
unary_kinds unary.Length kindred.Unit = refl
unary_kinds unary.Length kindred.Bool = refl
unary_kinds unary.Length (kindred.Int a b) = refl
unary_kinds unary.Length (kindred.Sym a) = refl
unary_kinds unary.Length (kindred.Text a) = refl
unary_kinds unary.Length (kindred.Pair' n (kindred.more_of-Twins a b kindred.end_of-Twins)) = refl

-- operators on numbers, whose values are all of one kind
numbers_kinds : (f : Interval → Interval → Kindred) (same : (x y z w : Interval) → kind_of (f x y) ≡ kind_of (f z w)) (k l : Kindred)
    → option_map kind_of (on_numbers f (kind_of k) (kind_of l)) ≡ option_map kind_of (on_numbers f k l)
numbers_kinds f same kindred.Unit l = refl
numbers_kinds f same kindred.Bool l = refl
numbers_kinds f same (kindred.Int a b) kindred.Unit = refl
numbers_kinds f same (kindred.Int a b) kindred.Bool = refl
numbers_kinds f same (kindred.Int a b) (kindred.Int c d) = ap (λ k. Some k) (same _ _ _ _)
numbers_kinds f same (kindred.Int a b) (kindred.Sym c) = refl
numbers_kinds f same (kindred.Int a b) (kindred.Text c) = refl
numbers_kinds f same (kindred.Int a b) (kindred.Pair' n (kindred.more_of-Twins c d kindred.end_of-Twins)) = refl
numbers_kinds f same (kindred.Sym a) l = refl
numbers_kinds f same (kindred.Text a) l = refl
numbers_kinds f same (kindred.Pair' n (kindred.more_of-Twins a b kindred.end_of-Twins)) l = refl

-- operators with two operands
binary_kinds : (op : Binary) (k l : Kindred) → option_map kind_of (binary_type op (kind_of k) (kind_of l)) ≡ option_map kind_of (binary_type op k l)
unfolding hidden-the_row-Twins-0 hidden
binary_kinds binary.Or k l = λ i. option_map kind_of (provided (bool_kind k i && bool_kind l i) kinds.Bool)
binary_kinds binary.And k l = λ i. option_map kind_of (provided (bool_kind k i && bool_kind l i) kinds.Bool)
binary_kinds binary.Eq k l = ap (λ b. option_map kind_of (provided b kinds.Bool)) (joins_kinds k l)
binary_kinds binary.Ne k l = ap (λ b. option_map kind_of (provided b kinds.Bool)) (joins_kinds k l)
binary_kinds binary.Lt k l = numbers_kinds (λ a b. kinds.Bool) (λ x y z w. refl) k l
binary_kinds binary.Le k l = numbers_kinds (λ a b. kinds.Bool) (λ x y z w. refl) k l
binary_kinds binary.Gt k l = numbers_kinds (λ a b. kinds.Bool) (λ x y z w. refl) k l
binary_kinds binary.Ge k l = numbers_kinds (λ a b. kinds.Bool) (λ x y z w. refl) k l
binary_kinds binary.Add k l = numbers_kinds (λ a b. int_type (sum a b)) (λ x y z w. refl) k l
binary_kinds binary.Sub k l = numbers_kinds (λ a b. int_type (difference a b)) (λ x y z w. refl) k l
binary_kinds binary.Mul k l = numbers_kinds (λ a b. int_type (product a b)) (λ x y z w. refl) k l
binary_kinds binary.Div k l = numbers_kinds (λ a b. int_type (quotient a b)) (λ x y z w. refl) k l
binary_kinds binary.Rem k l = numbers_kinds (λ a b. int_type (remainder a b)) (λ x y z w. refl) k l
binary_kinds binary.Pair k l =
    ap (λ t. Some t)
    (Twins_of-equal (record { left = kind_of (kind_of k); right = kind_of (kind_of l) }) (record { left = kind_of k; right = kind_of l }) (kind_twice k) (kind_twice l))

-- types of one kind behind the same test
chosen_kinds : (b : Bool) (k l : Kindred) → (b ≡ true → kind_of k ≡ kind_of l) → option_map kind_of (provided b k) ≡ option_map kind_of (provided b l)
chosen_kinds true k l f = ap (λ t. Some t) (f refl)
chosen_kinds false k l f = refl

-- a choice
if_kinds : (c k l : Kindred) → option_map kind_of (if_type (kind_of c) (kind_of k) (kind_of l)) ≡ option_map kind_of (if_type c k l)
if_kinds c k l =
    (λ i. option_map kind_of (provided (bool_kind c i && joins_kinds k l i) (join_of (kind_of k) (kind_of l))))
    ∙ chosen_kinds (is_bool c && joins k l) (join_of (kind_of k) (kind_of l)) (join_of k l)
    (λ h. let j = (and_parts (is_bool c) (joins k l) h).1 in join_kind (kind_of k) (kind_of l) (joins_kinds k l ∙ j) ∙ kind_twice k ∙ sym (join_kind k l j))

-- the kind of what a test of bounds let through
kind_told : (o : Option Kindred) (k t : Kindred) → o ≡ Some k → within k ≡ Some t → option_map kind_of o ≡ Some (kind_of t)
kind_told o k t e w = ap (λ p. option_map kind_of p) e ∙ ap (λ l. Some (kind_of l)) (from_within k t w).1

pub kind_of_typed : (e : Expr) (of t : Kindred) → type_of_expr e of ≡ Some t → kind_of_expr e of ≡ Some (kind_of t)
unfolding hidden-the_row-Expr-0 hidden-the_row-ExprPair-1 hidden-the_row-ExprTriple-2 hidden
kind_of_typed expr.It of t e = ap (λ k. Some (kind_of k)) (from_within of t e).1
kind_of_typed expr.Unit of t e = ap (λ o. option_map kind_of o) e
kind_of_typed (expr.Bool b) of t e = ap (λ o. option_map kind_of o) e
kind_of_typed (expr.Int n) of t e = ap (λ k. Some (kind_of k)) (from_within (kinds.Int n n) t e).1
kind_of_typed (expr.Text bytes) of t e = ap (λ k. Some (kind_of k)) (from_provided _ (kinds.Text (length bytes)) t e).1
kind_of_typed (expr.Sym names k) of t e = ap (λ o. option_map kind_of o) e
kind_of_typed (expr.One' op m (expr.more_of-Expr x _)) of t e =
    let h = from_and_then (λ a. unary_within op a) (type_of_expr x of) t e in
    let g = from_and_then within (unary_type op h.0) t h.2 in
    let p = kind_of_typed x of h.0 h.1 in
    (λ i. option_and_then (λ a. unary_kind op a) (p i)) ∙ unary_kinds op h.0 ∙ kind_told (unary_type op h.0) g.0 t g.1 g.2
kind_of_typed (expr.Two' op m (expr.more_of-ExprPair x y _)) of t e =
    let h = from_and_then (λ a. option_and_then (λ b. binary_within op a b) (type_of_expr y of)) (type_of_expr x of) t e in
    let g = from_and_then (λ b. binary_within op h.0 b) (type_of_expr y of) t h.2 in
    let i = from_if (may_stand_right op g.0) (option_and_then within (binary_type op h.0 g.0)) t g.2 in
    let j = from_and_then within (binary_type op h.0 g.0) t i.1 in
    let p = kind_of_typed x of h.0 h.1 in
    let q = kind_of_typed y of g.0 g.1 in
    (λ i. option_and_then (λ a. option_and_then (λ b. binary_kind op a b) (q i)) (p i)) ∙ binary_kinds op h.0 g.0 ∙ kind_told (binary_type op h.0 g.0) j.0 t j.1 j.2
kind_of_typed (expr.If' m (expr.more_of-ExprTriple c x y _)) of t e =
    let f = from_and_then (λ a. option_and_then (λ b. option_and_then (λ d. if_within a b d) (type_of_expr y of)) (type_of_expr x of)) (type_of_expr c of) t e in
    let h = from_and_then (λ b. option_and_then (λ d. if_within f.0 b d) (type_of_expr y of)) (type_of_expr x of) t f.2 in
    let g = from_and_then (λ d. if_within f.0 h.0 d) (type_of_expr y of) t h.2 in
    let j = from_and_then within (if_type f.0 h.0 g.0) t g.2 in
    let o = kind_of_typed c of f.0 f.1 in
    let p = kind_of_typed x of h.0 h.1 in
    let q = kind_of_typed y of g.0 g.1 in
    (λ i. option_and_then (λ a. option_and_then (λ b. option_and_then (λ d. if_kind a b d) (q i)) (p i)) (o i)) ∙ if_kinds f.0 h.0 g.0 ∙ kind_told (if_type f.0 h.0 g.0) j.0 t j.1 j.2

-- An expression that has no kind has no type.
pub untyped : (e : Expr) (of : Kindred) → kind_of_expr e of ≡ None → type_of_expr e of ≡ None
untyped e of none = by (type_of_expr e of) refl
  where
    by : (o : Option Kindred) → type_of_expr e of ≡ o → type_of_expr e of ≡ None
    by None is = is
    by (Some t) is = let h = sym none ∙ kind_of_typed e of t is in absurd (cc)
