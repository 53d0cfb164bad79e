-- Part by part.
use Rattle.std.proofs.Common.{◌∙◌, ap, take, Some}
use Rattle.reo_exprs.specs.declared.expr.Expr.TheVariants as exprs
use Rattle.reo_trees.specs.declared.terms.Term.{Term}
use Rattle.reo_trees.specs.declared.terms.TermPair.{TermPair}
use Rattle.reo_trees.specs.declared.terms.TermTriple.{TermTriple}
use Rattle.reo_unfold.proofs.ExprLemmas.{one_made, one_none, two_made, two_none_left, two_none_right, if_made, if_none_condition, if_none_yes, if_none_no, part}
use Rattle.reo_unfold.proofs.exprs.+expr_of.Goals as goal

pub symbol_of-requires : goal.symbol_of-requires
symbol_of-requires t c = c.in-Some.ensures.few c.requires

pub returns-in_ok-new-in-Some-2 : goal.returns-in_ok-new-in-Some-2
returns-in_ok-new-in-Some-2 t c ts are =
    ap (λ q. Some (exprs.One c.in-One.op q)) c.in_ok-new-in-Some-2.ensures ∙ one_made (take c.args.known ts) c.args.form.now c.in-One.op c.in-One.operand _ c.in-One.is (part (take c.args.known ts) c.args.form.now (λ (q : Term). q.form) c.get.result.now _ _ _ c.get.ensures (c.in_ok-made-in-One.ensures ts are) c.in-Some-2.is)

pub returns-in-None-2 : goal.returns-in-None-2
returns-in-None-2 t c ts are =
    one_none (take c.args.known ts) c.args.form.now c.in-One.op c.in-One.operand c.in-One.is (part (take c.args.known ts) c.args.form.now (λ (q : Term). q.form) c.get.result.now _ _ _ c.get.ensures (c.in_ok-made-in-One.ensures ts are) c.in-None-2.is)

pub returns-in_default : goal.returns-in_default
returns-in_default t c ts are =
    two_none_left (take c.args.known ts) c.args.form.now c.in-Two.op c.in-Two.pair c.in-Two.is (part (take c.args.known ts) c.args.form.now (λ (q : TermPair). q.left.form) c.get-pair.result.now _ _ _ c.get-pair.ensures (c.in_ok-left-in-Two.ensures ts are) c.in_default.is)

pub returns-in_default-2 : goal.returns-in_default-2
returns-in_default-2 t c ts are =
    two_none_right (take c.args.known ts) c.args.form.now c.in-Two.op c.in-Two.pair _ c.in-Two.is (part (take c.args.known ts) c.args.form.now (λ (q : TermPair). q.left.form) c.get-pair.result.now _ _ _ c.get-pair.ensures (c.in_ok-left-in-Two.ensures ts are) c.in-Some-3.is) (part (take c.args.known ts) c.args.form.now (λ (q : TermPair). q.right.form) c.get-pair.result.now _ _ _ c.get-pair.ensures (c.in_ok-right-in-Two.ensures ts are) c.in_default-2.is)

pub returns-in_ok-new-in-Two : goal.returns-in_ok-new-in-Two
returns-in_ok-new-in-Two t c ts are =
    ap (λ q. Some (exprs.Two c.in-Two.op q)) c.in_ok-new-in-Two.ensures ∙ two_made (take c.args.known ts) c.args.form.now c.in-Two.op c.in-Two.pair _ _ c.in-Two.is (part (take c.args.known ts) c.args.form.now (λ (q : TermPair). q.left.form) c.get-pair.result.now _ _ _ c.get-pair.ensures (c.in_ok-left-in-Two.ensures ts are) c.in-Some-3.is) (part (take c.args.known ts) c.args.form.now (λ (q : TermPair). q.right.form) c.get-pair.result.now _ _ _ c.get-pair.ensures (c.in_ok-right-in-Two.ensures ts are) c.in-Some-4.is)

pub returns-in_default-3 : goal.returns-in_default-3
returns-in_default-3 t c ts are =
    if_none_condition (take c.args.known ts) c.args.form.now c.in-If.parts c.in-If.is (part (take c.args.known ts) c.args.form.now (λ (q : TermTriple). q.condition.form) c.get-parts.result.now _ _ _ c.get-parts.ensures (c.in_ok-condition-in-If.ensures ts are) c.in_default-3.is)

pub returns-in_default-4 : goal.returns-in_default-4
returns-in_default-4 t c ts are =
    if_none_yes (take c.args.known ts) c.args.form.now c.in-If.parts _ c.in-If.is (part (take c.args.known ts) c.args.form.now (λ (q : TermTriple). q.condition.form) c.get-parts.result.now _ _ _ c.get-parts.ensures (c.in_ok-condition-in-If.ensures ts are) c.in-Some-5.is) (part (take c.args.known ts) c.args.form.now (λ (q : TermTriple). q.yes.form) c.get-parts.result.now _ _ _ c.get-parts.ensures (c.in_ok-yes-in-If.ensures ts are) c.in_default-4.is)

pub returns-in_default-5 : goal.returns-in_default-5
returns-in_default-5 t c ts are =
    if_none_no (take c.args.known ts) c.args.form.now c.in-If.parts _ _ c.in-If.is (part (take c.args.known ts) c.args.form.now (λ (q : TermTriple). q.condition.form) c.get-parts.result.now _ _ _ c.get-parts.ensures (c.in_ok-condition-in-If.ensures ts are) c.in-Some-5.is) (part (take c.args.known ts) c.args.form.now (λ (q : TermTriple). q.yes.form) c.get-parts.result.now _ _ _ c.get-parts.ensures (c.in_ok-yes-in-If.ensures ts are) c.in-Some-6.is) (part (take c.args.known ts) c.args.form.now (λ (q : TermTriple). q.no.form) c.get-parts.result.now _ _ _ c.get-parts.ensures (c.in_ok-no-in-If.ensures ts are) c.in_default-5.is)

pub returns-in_ok-new-in-If : goal.returns-in_ok-new-in-If
returns-in_ok-new-in-If t c ts are =
    ap (λ q. Some (exprs.If q)) c.in_ok-new-in-If.ensures ∙ if_made (take c.args.known ts) c.args.form.now c.in-If.parts _ _ _ c.in-If.is (part (take c.args.known ts) c.args.form.now (λ (q : TermTriple). q.condition.form) c.get-parts.result.now _ _ _ c.get-parts.ensures (c.in_ok-condition-in-If.ensures ts are) c.in-Some-5.is) (part (take c.args.known ts) c.args.form.now (λ (q : TermTriple). q.yes.form) c.get-parts.result.now _ _ _ c.get-parts.ensures (c.in_ok-yes-in-If.ensures ts are) c.in-Some-6.is) (part (take c.args.known ts) c.args.form.now (λ (q : TermTriple). q.no.form) c.get-parts.result.now _ _ _ c.get-parts.ensures (c.in_ok-no-in-If.ensures ts are) c.in-Some-7.is)
