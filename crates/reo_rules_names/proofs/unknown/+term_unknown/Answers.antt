-- The parts of an expression from left to right.
use Rattle.std.proofs.Common.{◌∙◌, ◌++◌, sym, ap, subst}
use Rattle.std.proofs.lemmas.List.{append-nil}
use Rattle.reo_trees.specs.declared.terms.TermForm.TheVariants as terms
use Rattle.reo_rules.specs.Judged.{IsFirst}
use Rattle.reo_rules_names.proofs.AfterLemmas.{judged_err, judged_same, judged_right, first_left, first_right}
use Rattle.reo_rules_names.proofs.TermLemmas.{in_term, in_term-One, in_term-Two, in_term-If}
use Rattle.reo_rules_names.proofs.unknown.+term_unknown.Goals as goal

pub returns-in-Sym : goal.returns-in-Sym
returns-in-Sym t c known are =
    judged_same _ _ c.symbol_unknown.result (sym (append-nil _) ∙ ap (in_term known c.args.line) (sym c.in-Sym.is)) (c.symbol_unknown.ensures known are)

pub returns-in-One : goal.returns-in-One
returns-in-One t c known are =
    let operand = c.get-operand.result.now in
    let is = ap (in_term known c.args.line) (c.in-One.is ∙ ap (terms.One c.in-One.field-0) (sym c.get-operand.ensures)) ∙ in_term-One known c.args.line c.in-One.field-0 operand in
    judged_same _ _ c.term_unknown.result (sym is) (c.term_unknown.ensures known are)

pub returns-in_err-term_unknown-in-Two : goal.returns-in_err-term_unknown-in-Two
returns-in_err-term_unknown-in-Two t c known are =
    let pair = c.get-pair.result.now in
    let fault = c.in_err-term_unknown-in-Two.field-0.0 in
    let is = ap (in_term known c.args.line) (c.in-Two.is ∙ ap (terms.Two c.in-Two.field-0) (sym c.get-pair.ensures)) ∙ in_term-Two known c.args.line c.in-Two.field-0 pair in
    judged_err c.from_residual.result fault _ c.from_residual.ensures
    (subst (λ fs. IsFirst fs fault) (sym is) (first_left (in_term known pair.left.line pair.left.form) (in_term known pair.right.line pair.right.form) fault (c.in_err-term_unknown-in-Two.ensures known are)))

pub returns-in_ok-term_unknown-in-Two : goal.returns-in_ok-term_unknown-in-Two
returns-in_ok-term_unknown-in-Two t c known are =
    let pair = c.get-pair.result.now in
    let answer = c.term_unknown-in-Two-2.result in
    let is = ap (in_term known c.args.line) (c.in-Two.is ∙ ap (terms.Two c.in-Two.field-0) (sym c.get-pair.ensures)) ∙ in_term-Two known c.args.line c.in-Two.field-0 pair in
    judged_same _ _ answer (sym is)
    (judged_right (in_term known pair.left.line pair.left.form) (in_term known pair.right.line pair.right.form) answer (c.in_ok-term_unknown-in-Two.ensures known are) (c.term_unknown-in-Two-2.ensures known are))

pub returns-in_err-term_unknown-in-If : goal.returns-in_err-term_unknown-in-If
returns-in_err-term_unknown-in-If t c known are =
    let parts = c.get-parts.result.now in
    let rest = in_term known parts.yes.line parts.yes.form ++ in_term known parts.no.line parts.no.form in
    let fault = c.in_err-term_unknown-in-If.field-0.0 in
    let is = ap (in_term known c.args.line) (c.in-If.is ∙ ap terms.If (sym c.get-parts.ensures)) ∙ in_term-If known c.args.line parts in
    judged_err c.from_residual-in_err-term_unknown-in-If.result fault _ c.from_residual-in_err-term_unknown-in-If.ensures
    (subst (λ fs. IsFirst fs fault) (sym is) (first_left (in_term known parts.condition.line parts.condition.form) rest fault (c.in_err-term_unknown-in-If.ensures known are)))

pub returns-in_err-term_unknown-in-If-2 : goal.returns-in_err-term_unknown-in-If-2
returns-in_err-term_unknown-in-If-2 t c known are =
    let parts = c.get-parts.result.now in
    let second = in_term known parts.yes.line parts.yes.form in
    let third = in_term known parts.no.line parts.no.form in
    let fault = c.in_err-term_unknown-in-If-2.field-0.0 in
    let is = ap (in_term known c.args.line) (c.in-If.is ∙ ap terms.If (sym c.get-parts.ensures)) ∙ in_term-If known c.args.line parts in
    judged_err c.from_residual-in_err-term_unknown-in-If-2.result fault _ c.from_residual-in_err-term_unknown-in-If-2.ensures
    (subst (λ fs. IsFirst fs fault) (sym is)
    (first_right (in_term known parts.condition.line parts.condition.form) (second ++ third) fault (c.in_ok-term_unknown-in-If.ensures known are) (first_left second third fault (c.in_err-term_unknown-in-If-2.ensures known are))))

pub returns-in_ok-term_unknown-in-If-2 : goal.returns-in_ok-term_unknown-in-If-2
returns-in_ok-term_unknown-in-If-2 t c known are =
    let parts = c.get-parts.result.now in
    let second = in_term known parts.yes.line parts.yes.form in
    let third = in_term known parts.no.line parts.no.form in
    let answer = c.term_unknown-in-If-3.result in
    let is = ap (in_term known c.args.line) (c.in-If.is ∙ ap terms.If (sym c.get-parts.ensures)) ∙ in_term-If known c.args.line parts in
    judged_same _ _ answer (sym is)
    (judged_right (in_term known parts.condition.line parts.condition.form) (second ++ third) answer (c.in_ok-term_unknown-in-If.ensures known are)
    (judged_right second third answer (c.in_ok-term_unknown-in-If-2.ensures known are) (c.term_unknown-in-If-3.ensures known are)))
