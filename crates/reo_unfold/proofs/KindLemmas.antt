-- Filters and maps by their expressions.
use Rattle.std.proofs.Common.{◌≡◌, ◌∙◌, true, false, Option, Some, None, is_some, refl, sym, ap}
use Rattle.std.specs.Coded.{Coded-set, coded_option}
use Rattle.reo_values.specs.declared.kindred.Kindred as kindred
use Rattle.reo_values.specs.declared.kindred.Kindred.{Kindred}
use Rattle.reo_values.specs.declared.kindred.Kindred.TheVariants as kinds
use Rattle.reo_values.specs.contracts.kindred.Kindred as rows
use Rattle.reo_exprs.specs.declared.expr.Expr.{Expr}
use Rattle.reo_exprs.specs.Typing.{type_of_expr, IsTyped}
use Rattle.reo_kinds.specs.declared.kind.Kind.TheVariants as primitives
use Rattle.reo_kinds.specs.declared.kind.FilterRule.{FilterRule}
use Rattle.reo_kinds.specs.declared.kind.MapRule.{MapRule}
use Rattle.reo_kinds.specs.Predicates.{IsTyped-prop}
use Rattle.reo_flat.specs.ChannelKinds.{filter_with, filter_kind, map_with, map_kind}
use Rattle.reo_unfold.specs.Known.{is_truth}

pub truth_is : (t : Option Kindred) → is_truth t ≡ true → t ≡ Some kinds.Bool
truth_is (Some kindred.Bool) is = refl
truth_is (Some kindred.Unit) is = absurd (cc)
truth_is (Some (kindred.Int a b)) is = absurd (cc)
truth_is (Some (kindred.Sym a)) is = absurd (cc)
truth_is (Some (kindred.Text a)) is = absurd (cc)
truth_is (Some (kindred.Pair' m p)) is = absurd (cc)
truth_is None is = absurd (cc)

filter_is : (e : Expr) (of : Kindred) (t : Option Kindred) (is : type_of_expr e of ≡ t) (typed : type_of_expr e of ≡ Some kinds.Bool) → filter_with e of t is ≡ primitives.Filter (record { of = of; expr = e; typed = typed })
filter_is e of (Some kindred.Bool) is typed = ap (λ q. primitives.Filter (record { of = of; expr = e; typed = q })) (Coded-set (coded_option rows.the_row.coded) (type_of_expr e of) (Some kinds.Bool) is typed)
filter_is e of (Some kindred.Unit) is typed = absurd (cc)
filter_is e of (Some (kindred.Int a b)) is typed = absurd (cc)
filter_is e of (Some (kindred.Sym a)) is typed = absurd (cc)
filter_is e of (Some (kindred.Text a)) is typed = absurd (cc)
filter_is e of (Some (kindred.Pair' m p)) is typed = absurd (cc)
filter_is e of None is typed = absurd (cc)

pub filter_made : (rule : FilterRule) (of : Kindred) (e : Expr) → rule.of ≡ of → rule.expr ≡ e → primitives.Filter rule ≡ filter_kind of (Some e)
filter_made rule of e of_is expr_is = sym (filter_is rule.expr rule.of _ refl rule.typed) ∙ (λ i. filter_kind (of_is i) (Some (expr_is i)))

filter_not : (e : Expr) (of : Kindred) (t : Option Kindred) (is : type_of_expr e of ≡ t) → is_truth t ≡ false → primitives.Sync ≡ filter_with e of t is
filter_not e of (Some kindred.Bool) is no_truth = absurd (cc)
filter_not e of (Some kindred.Unit) is no_truth = refl
filter_not e of (Some (kindred.Int a b)) is no_truth = refl
filter_not e of (Some (kindred.Sym a)) is no_truth = refl
filter_not e of (Some (kindred.Text a)) is no_truth = refl
filter_not e of (Some (kindred.Pair' m p)) is no_truth = refl
filter_not e of None is no_truth = refl

pub filter_none : (of : Kindred) (e : Expr) → is_truth (type_of_expr e of) ≡ false → primitives.Sync ≡ filter_kind of (Some e)
filter_none of e no_truth = filter_not e of _ refl no_truth

map_is : (e : Expr) (of : Kindred) (t : Option Kindred) (is : type_of_expr e of ≡ t) (typed : IsTyped e of) → map_with e of t is ≡ primitives.Map (record { of = of; expr = e; typed = typed })
map_is e of (Some t) is typed = ap (λ q. primitives.Map (record { of = of; expr = e; typed = q })) (IsTyped-prop rows.the_row.coded e of (t, is) typed)
map_is e of None is typed = let some = typed.1 in absurd (cc)

pub map_made : (rule : MapRule) (of : Kindred) (e : Expr) → rule.of ≡ of → rule.expr ≡ e → primitives.Map rule ≡ map_kind of (Some e)
map_made rule of e of_is expr_is = sym (map_is rule.expr rule.of _ refl rule.typed) ∙ (λ i. map_kind (of_is i) (Some (expr_is i)))

map_not : (e : Expr) (of : Kindred) (t : Option Kindred) (is : type_of_expr e of ≡ t) → is_some t ≡ false → primitives.Sync ≡ map_with e of t is
map_not e of (Some t) is untyped = absurd (cc)
map_not e of None is untyped = refl

pub map_none : (of : Kindred) (e : Expr) → is_some (type_of_expr e of) ≡ false → primitives.Sync ≡ map_kind of (Some e)
map_none of e untyped = map_not e of _ refl untyped

typed_with : (t : Option Kindred) → is_some t ≡ true → (k : Kindred) × (t ≡ Some k)
typed_with (Some k) there = (k, refl)
typed_with None there = absurd (cc)

pub typed_by : (e : Expr) (of : Kindred) → is_some (type_of_expr e of) ≡ true → IsTyped e of
typed_by e of there = typed_with (type_of_expr e of) there
