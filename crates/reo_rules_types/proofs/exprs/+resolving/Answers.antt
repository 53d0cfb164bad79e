-- What the parts stand for, and then the whole.
use Rattle.std.proofs.Common.{◌≡◌, ◌∙◌, ◌<◌, length, sym, ap, subst}
use Rattle.std.specs.Prelude.{IfOk}
use Rattle.reo_rules_types.proofs.Sequences.{no_value}
use Rattle.reo_trees.specs.declared.terms.TermForm.TheVariants as forms
use Rattle.reo_rules.specs.Terms.{symbol_in, expr_of}
use Rattle.reo_rules_types.specs.Cells.{type_at}
use Rattle.reo_rules_types.specs.Scoped.{typed, number_named}
use Rattle.reo_rules_types.proofs.Scoped.{named_is, named_below}
use Rattle.reo_rules_types.proofs.Sizes.{one_less, two_less, if_less}
use Rattle.reo_rules_types.proofs.Formed.{one_expr_some, one_expr_none, two_expr_some, two_expr_none, if_expr_some, if_expr_none, if_expr_part}
use Rattle.reo_rules_types.proofs.exprs.+resolving.Goals as goal

pub expr_of_term-symbol_expr-requires : goal.expr_of_term-symbol_expr-requires
expr_of_term-symbol_expr-requires t c =
    let types = c.args.types.now in
    subst (λ n. n < length types) (sym (c.find-number.ensures ∙ ap (number_named c.args.declared.now) c.as_slice.ensures)) (named_below types c.in-Sym.name c.args.declared.now c.requires)

pub expr_of_term-returns-in-Sym : goal.expr_of_term-returns-in-Sym
expr_of_term-returns-in-Sym t c =
    let types = c.args.types.now in
    let es = c.args.declared.now in
    let kind = ap (type_at types) (c.find-number.ensures ∙ ap (number_named es) c.as_slice.ensures) ∙ sym (named_is types c.in-Sym.name es c.requires) in
    subst (λ e. IfOk c.symbol_expr.result (λ made. made ≡ e)) ((λ i. symbol_in (kind i) (c.as_slice-in-Sym.ensures i)) ∙ ap (expr_of (typed types es)) (sym c.in-Sym.is)) c.symbol_expr.ensures

pub expr_of_term-expr_of_term-requires : goal.expr_of_term-expr_of_term-requires
expr_of_term-expr_of_term-requires t c = (one_less c.args.form.now c.in-One.op c.get.result.now t (c.in-One.is ∙ ap (forms.One c.in-One.op) (sym c.get.ensures)) c.decreases, c.requires)

pub expr_of_term-returns-in-Some : goal.expr_of_term-returns-in-Some
expr_of_term-returns-in-Some t c =
    subst (λ e. IfOk c.one_expr.result (λ made. made ≡ e))
    (one_expr_some (typed c.args.types.now c.args.declared.now) c.args.form.now c.in-One.op c.get.result.now c.in-Some.operand (c.in-One.is ∙ ap (forms.One c.in-One.op) (sym c.get.ensures)) (sym c.in-Some.is ∙ c.in_ok-operand-in-One.ensures))
    c.one_expr.ensures

pub expr_of_term-returns-in-None : goal.expr_of_term-returns-in-None
expr_of_term-returns-in-None t c =
    one_expr_none (typed c.args.types.now c.args.declared.now) c.args.form.now c.in-One.op c.get.result.now (c.in-One.is ∙ ap (forms.One c.in-One.op) (sym c.get.ensures)) (sym c.in-None.is ∙ c.in_ok-operand-in-One.ensures)

pub expr_of_term-two_of-requires : goal.expr_of_term-two_of-requires
expr_of_term-two_of-requires t c = (two_less c.args.form.now c.in-Two.op c.get-pair.result.now t (c.in-Two.is ∙ ap (forms.Two c.in-Two.op) (sym c.get-pair.ensures)) c.decreases, c.requires)

pub expr_of_term-returns-in-Some-2 : goal.expr_of_term-returns-in-Some-2
expr_of_term-returns-in-Some-2 t c =
    subst (λ e. IfOk c.two_expr.result (λ made. made ≡ e))
    (two_expr_some (typed c.args.types.now c.args.declared.now) c.args.form.now c.in-Two.op c.get-pair.result.now c.in-Some-2.pair (c.in-Two.is ∙ ap (forms.Two c.in-Two.op) (sym c.get-pair.ensures)) (sym c.in-Some-2.is ∙ c.in_ok-pair-in-Two.ensures))
    c.two_expr.ensures

pub expr_of_term-returns-in-None-2 : goal.expr_of_term-returns-in-None-2
expr_of_term-returns-in-None-2 t c =
    two_expr_none (typed c.args.types.now c.args.declared.now) c.args.form.now c.in-Two.op c.get-pair.result.now (c.in-Two.is ∙ ap (forms.Two c.in-Two.op) (sym c.get-pair.ensures)) (sym c.in-None-2.is ∙ c.in_ok-pair-in-Two.ensures)

pub expr_of_term-expr_of_term-requires-in-If : goal.expr_of_term-expr_of_term-requires-in-If
expr_of_term-expr_of_term-requires-in-If t c = ((if_less c.args.form.now c.get-parts.result.now t (c.in-If.is ∙ ap forms.If (sym c.get-parts.ensures)) c.decreases).0, c.requires)

pub expr_of_term-returns-in_default : goal.expr_of_term-returns-in_default
expr_of_term-returns-in_default t c =
    if_expr_none (typed c.args.types.now c.args.declared.now) c.args.form.now c.get-parts.result.now (c.in-If.is ∙ ap forms.If (sym c.get-parts.ensures)) (sym (no_value c.in_ok-condition-in-If.field-0 c.in_default.not-Some) ∙ c.in_ok-condition-in-If.ensures)

pub expr_of_term-two_of-requires-in-If : goal.expr_of_term-two_of-requires-in-If
expr_of_term-two_of-requires-in-If t c = ((if_less c.args.form.now c.get-parts.result.now t (c.in-If.is ∙ ap forms.If (sym c.get-parts.ensures)) c.decreases).1, c.requires)

pub expr_of_term-returns-in-Some-4 : goal.expr_of_term-returns-in-Some-4
expr_of_term-returns-in-Some-4 t c =
    subst (λ e. IfOk c.if_expr.result (λ made. made ≡ e))
    (if_expr_some (typed c.args.types.now c.args.declared.now) c.args.form.now c.get-parts.result.now c.in-Some-3.condition c.in-Some-4.pair (c.in-If.is ∙ ap forms.If (sym c.get-parts.ensures))
    (sym c.in-Some-3.is ∙ c.in_ok-condition-in-If.ensures) (sym c.in-Some-4.is ∙ c.in_ok-pair-in-If.ensures))
    c.if_expr.ensures

pub expr_of_term-returns-in-None-3 : goal.expr_of_term-returns-in-None-3
expr_of_term-returns-in-None-3 t c =
    if_expr_part (typed c.args.types.now c.args.declared.now) c.args.form.now c.get-parts.result.now (c.in-If.is ∙ ap forms.If (sym c.get-parts.ensures)) (sym c.in-None-3.is ∙ c.in_ok-pair-in-If.ensures)
