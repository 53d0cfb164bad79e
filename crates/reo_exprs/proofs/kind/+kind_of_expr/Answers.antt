use Rattle.std.proofs.Common.{◌∙◌, ◌≡◌, None, ap, sym, subst, refl}
use Rattle.std.specs.Prelude.{IfOk}
use Rattle.reo_exprs.specs.declared.expr.Expr.TheVariants as exprs
use Rattle.reo_exprs.specs.Typing.{kind_of_expr, unary_kind, binary_kind}
use Rattle.reo_exprs.proofs.Steps.{is_kind, one_kinded, one_unkinded, two_kinded, two_unkinded, if_kinded, if_unkinded}
use Rattle.reo_exprs.proofs.kind.+kind_of_expr.Goals as goal

pub returns-in-None : goal.returns-in-None
returns-in-None t c = one_unkinded c.args.expr.now c.args.of.now None c.in-One.op c.get.result.now (c.in-One.is ∙ ap (λ x. exprs.One c.in-One.op x) (sym c.get.ensures)) (sym c.in-None.is ∙ c.in_ok-x-in-One.ensures)

pub one_kind-requires : goal.one_kind-requires
one_kind-requires t c = is_kind c.get.result.now c.args.of.now c.in-Some.x (sym c.in_ok-x-in-One.ensures ∙ c.in-Some.is)

pub returns-in-Some : goal.returns-in-Some
returns-in-Some t c =
    let whole : unary_kind c.in-One.op c.in-Some.x ≡ kind_of_expr c.args.expr.now c.args.of.now =
    one_kinded c.args.expr.now c.args.of.now (unary_kind c.in-One.op c.in-Some.x) c.in-One.op c.get.result.now c.in-Some.x (c.in-One.is ∙ ap (λ x. exprs.One c.in-One.op x) (sym c.get.ensures)) (sym c.in-Some.is ∙ c.in_ok-x-in-One.ensures) refl in
    subst (λ k. IfOk c.one_kind.result (λ made. made ≡ k)) whole c.one_kind.ensures

pub returns-in_default : goal.returns-in_default
returns-in_default t c = two_unkinded c.args.expr.now c.args.of.now None c.in-Two.op c.get-pair.result.now c.in_ok-x-in-Two.field-0 (kind_of_expr c.get-pair.result.now.right c.args.of.now) (c.in-Two.is ∙ ap (λ p. exprs.Two c.in-Two.op p) (sym c.get-pair.ensures)) c.in_ok-x-in-Two.ensures refl (λ x y f h. c.in_default.not-Some x f)

pub returns-in_default-2 : goal.returns-in_default-2
returns-in_default-2 t c = two_unkinded c.args.expr.now c.args.of.now None c.in-Two.op c.get-pair.result.now c.in_ok-x-in-Two.field-0 c.in_ok-y-in-Two.field-0 (c.in-Two.is ∙ ap (λ p. exprs.Two c.in-Two.op p) (sym c.get-pair.ensures)) c.in_ok-x-in-Two.ensures c.in_ok-y-in-Two.ensures (λ x y f h. c.in_default-2.not-Some y h)

pub two_kind-requires-clause-left : goal.two_kind-requires-clause-left
two_kind-requires-clause-left t c = is_kind c.get-pair.result.now.left c.args.of.now c.in-Some-2.x (sym c.in_ok-x-in-Two.ensures ∙ c.in-Some-2.is)

pub two_kind-requires-clause-right : goal.two_kind-requires-clause-right
two_kind-requires-clause-right t c = is_kind c.get-pair.result.now.right c.args.of.now c.in-Some-3.y (sym c.in_ok-y-in-Two.ensures ∙ c.in-Some-3.is)

pub returns-in-Some-3 : goal.returns-in-Some-3
returns-in-Some-3 t c =
    let whole : binary_kind c.in-Two.op c.in-Some-2.x c.in-Some-3.y ≡ kind_of_expr c.args.expr.now c.args.of.now =
    two_kinded c.args.expr.now c.args.of.now (binary_kind c.in-Two.op c.in-Some-2.x c.in-Some-3.y) c.in-Two.op c.get-pair.result.now c.in-Some-2.x c.in-Some-3.y (c.in-Two.is ∙ ap (λ p. exprs.Two c.in-Two.op p) (sym c.get-pair.ensures)) (sym c.in-Some-2.is ∙ c.in_ok-x-in-Two.ensures) (sym c.in-Some-3.is ∙ c.in_ok-y-in-Two.ensures) refl in
    subst (λ k. IfOk c.two_kind.result (λ made. made ≡ k)) whole c.two_kind.ensures

pub returns-in_default-3 : goal.returns-in_default-3
returns-in_default-3 t c = if_unkinded c.args.expr.now c.args.of.now None c.get-parts.result.now c.in_ok-condition-in-If.field-0 (kind_of_expr c.get-parts.result.now.yes c.args.of.now) (kind_of_expr c.get-parts.result.now.no c.args.of.now) (c.in-If.is ∙ ap exprs.If (sym c.get-parts.ensures)) c.in_ok-condition-in-If.ensures refl refl (λ z x y d f h. c.in_default-3.not-Some z d)

pub returns-in_default-4 : goal.returns-in_default-4
returns-in_default-4 t c = if_unkinded c.args.expr.now c.args.of.now None c.get-parts.result.now c.in_ok-condition-in-If.field-0 c.in_ok-yes-in-If.field-0 (kind_of_expr c.get-parts.result.now.no c.args.of.now) (c.in-If.is ∙ ap exprs.If (sym c.get-parts.ensures)) c.in_ok-condition-in-If.ensures c.in_ok-yes-in-If.ensures refl (λ z x y d f h. c.in_default-4.not-Some x f)

pub returns-in_default-5 : goal.returns-in_default-5
returns-in_default-5 t c = if_unkinded c.args.expr.now c.args.of.now None c.get-parts.result.now c.in_ok-condition-in-If.field-0 c.in_ok-yes-in-If.field-0 c.in_ok-no-in-If.field-0 (c.in-If.is ∙ ap exprs.If (sym c.get-parts.ensures)) c.in_ok-condition-in-If.ensures c.in_ok-yes-in-If.ensures c.in_ok-no-in-If.ensures (λ z x y d f h. c.in_default-5.not-Some y h)

pub choice_kind-requires : goal.choice_kind-requires
choice_kind-requires t c = is_kind c.get-parts.result.now.yes c.args.of.now c.in-Some-5.yes (sym c.in_ok-yes-in-If.ensures ∙ c.in-Some-5.is)

pub returns-in-Some-6 : goal.returns-in-Some-6
returns-in-Some-6 t c = if_kinded c.args.expr.now c.args.of.now c.choice_kind.result c.get-parts.result.now c.in-Some-4.condition c.in-Some-5.yes c.in-Some-6.no (c.in-If.is ∙ ap exprs.If (sym c.get-parts.ensures)) (sym c.in-Some-4.is ∙ c.in_ok-condition-in-If.ensures) (sym c.in-Some-5.is ∙ c.in_ok-yes-in-If.ensures) (sym c.in-Some-6.is ∙ c.in_ok-no-in-If.ensures) c.choice_kind.ensures
