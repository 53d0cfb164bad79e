use Rattle.std.proofs.Common.{◌∙◌, ◌≡◌, None, ap, sym, subst, refl}
use Rattle.std.specs.Prelude.{IfOk}
use Rattle.reo_exprs.specs.declared.expr.Expr.TheVariants as exprs
use Rattle.reo_exprs.specs.Typing.{type_of_expr, unary_within, binary_within, if_within}
use Rattle.reo_exprs.proofs.NearType.{type_near}
use Rattle.reo_exprs.proofs.Steps.{one_typed, one_untyped, two_typed, two_untyped, if_typed, if_untyped}
use Rattle.reo_exprs.proofs.typing.+type_within.Goals as goal

pub returns-in-None : goal.returns-in-None
returns-in-None t c = one_untyped c.args.expr.now c.args.of.now None c.in-One.op c.get.result.now (c.in-One.is ∙ ap (λ x. exprs.One c.in-One.op x) (sym c.get.ensures)) (sym c.in-None.is ∙ c.in_ok-x-in-One.ensures)

pub one_type-requires : goal.one_type-requires
one_type-requires t c = type_near c.get.result.now c.args.of.now c.in-Some.x (sym c.in_ok-x-in-One.ensures ∙ c.in-Some.is)

pub returns-in-Some : goal.returns-in-Some
returns-in-Some t c =
    let whole : unary_within c.in-One.op c.in-Some.x ≡ type_of_expr c.args.expr.now c.args.of.now =
    one_typed c.args.expr.now c.args.of.now (unary_within c.in-One.op c.in-Some.x) c.in-One.op c.get.result.now c.in-Some.x (c.in-One.is ∙ ap (λ x. exprs.One c.in-One.op x) (sym c.get.ensures)) (sym c.in-Some.is ∙ c.in_ok-x-in-One.ensures) refl in
    subst (λ k. IfOk c.one_type.result (λ made. made ≡ k)) whole c.one_type.ensures

pub returns-in_default : goal.returns-in_default
returns-in_default t c = two_untyped c.args.expr.now c.args.of.now None c.in-Two.op c.get-pair.result.now c.in_ok-x-in-Two.field-0 (type_of_expr c.get-pair.result.now.right c.args.of.now) (c.in-Two.is ∙ ap (λ p. exprs.Two c.in-Two.op p) (sym c.get-pair.ensures)) c.in_ok-x-in-Two.ensures refl (λ x y f h. c.in_default.not-Some x f)

pub returns-in_default-2 : goal.returns-in_default-2
returns-in_default-2 t c = two_untyped c.args.expr.now c.args.of.now None c.in-Two.op c.get-pair.result.now c.in_ok-x-in-Two.field-0 c.in_ok-y-in-Two.field-0 (c.in-Two.is ∙ ap (λ p. exprs.Two c.in-Two.op p) (sym c.get-pair.ensures)) c.in_ok-x-in-Two.ensures c.in_ok-y-in-Two.ensures (λ x y f h. c.in_default-2.not-Some y h)

pub two_type-requires-clause-left : goal.two_type-requires-clause-left
two_type-requires-clause-left t c = type_near c.get-pair.result.now.left c.args.of.now c.in-Some-2.x (sym c.in_ok-x-in-Two.ensures ∙ c.in-Some-2.is)

pub two_type-requires-clause-right : goal.two_type-requires-clause-right
two_type-requires-clause-right t c = type_near c.get-pair.result.now.right c.args.of.now c.in-Some-3.y (sym c.in_ok-y-in-Two.ensures ∙ c.in-Some-3.is)

pub returns-in-Some-3 : goal.returns-in-Some-3
returns-in-Some-3 t c =
    let whole : binary_within c.in-Two.op c.in-Some-2.x c.in-Some-3.y ≡ type_of_expr c.args.expr.now c.args.of.now =
    two_typed c.args.expr.now c.args.of.now (binary_within c.in-Two.op c.in-Some-2.x c.in-Some-3.y) c.in-Two.op c.get-pair.result.now c.in-Some-2.x c.in-Some-3.y (c.in-Two.is ∙ ap (λ p. exprs.Two c.in-Two.op p) (sym c.get-pair.ensures)) (sym c.in-Some-2.is ∙ c.in_ok-x-in-Two.ensures) (sym c.in-Some-3.is ∙ c.in_ok-y-in-Two.ensures) refl in
    subst (λ k. IfOk c.two_type.result (λ made. made ≡ k)) whole c.two_type.ensures

pub returns-in_default-3 : goal.returns-in_default-3
returns-in_default-3 t c = if_untyped c.args.expr.now c.args.of.now None c.get-parts.result.now c.in_ok-condition-in-If.field-0 (type_of_expr c.get-parts.result.now.yes c.args.of.now) (type_of_expr c.get-parts.result.now.no c.args.of.now) (c.in-If.is ∙ ap exprs.If (sym c.get-parts.ensures)) c.in_ok-condition-in-If.ensures refl refl (λ z x y d f h. c.in_default-3.not-Some z d)

pub returns-in_default-4 : goal.returns-in_default-4
returns-in_default-4 t c = if_untyped c.args.expr.now c.args.of.now None c.get-parts.result.now c.in_ok-condition-in-If.field-0 c.in_ok-yes-in-If.field-0 (type_of_expr c.get-parts.result.now.no c.args.of.now) (c.in-If.is ∙ ap exprs.If (sym c.get-parts.ensures)) c.in_ok-condition-in-If.ensures c.in_ok-yes-in-If.ensures refl (λ z x y d f h. c.in_default-4.not-Some x f)

pub returns-in_default-5 : goal.returns-in_default-5
returns-in_default-5 t c = if_untyped c.args.expr.now c.args.of.now None c.get-parts.result.now c.in_ok-condition-in-If.field-0 c.in_ok-yes-in-If.field-0 c.in_ok-no-in-If.field-0 (c.in-If.is ∙ ap exprs.If (sym c.get-parts.ensures)) c.in_ok-condition-in-If.ensures c.in_ok-yes-in-If.ensures c.in_ok-no-in-If.ensures (λ z x y d f h. c.in_default-5.not-Some y h)

pub choice_type-requires-clause-left : goal.choice_type-requires-clause-left
choice_type-requires-clause-left t c = type_near c.get-parts.result.now.yes c.args.of.now c.in-Some-5.yes (sym c.in_ok-yes-in-If.ensures ∙ c.in-Some-5.is)

pub choice_type-requires-clause-right : goal.choice_type-requires-clause-right
choice_type-requires-clause-right t c = type_near c.get-parts.result.now.no c.args.of.now c.in-Some-6.no (sym c.in_ok-no-in-If.ensures ∙ c.in-Some-6.is)

pub returns-in-Some-6 : goal.returns-in-Some-6
returns-in-Some-6 t c =
    let whole : if_within c.in-Some-4.condition c.in-Some-5.yes c.in-Some-6.no ≡ type_of_expr c.args.expr.now c.args.of.now =
    if_typed c.args.expr.now c.args.of.now (if_within c.in-Some-4.condition c.in-Some-5.yes c.in-Some-6.no) c.get-parts.result.now c.in-Some-4.condition c.in-Some-5.yes c.in-Some-6.no (c.in-If.is ∙ ap exprs.If (sym c.get-parts.ensures)) (sym c.in-Some-4.is ∙ c.in_ok-condition-in-If.ensures) (sym c.in-Some-5.is ∙ c.in_ok-yes-in-If.ensures) (sym c.in-Some-6.is ∙ c.in_ok-no-in-If.ensures) refl in
    subst (λ k. IfOk c.choice_type.result (λ made. made ≡ k)) whole c.choice_type.ensures
