use Rattle.std.proofs.Common.{Bool, ℕ, List, arith}
use Rattle.std.proofs.lemmas.Grind.{common_steps}
use Rattle.reo_drawing.specs.label_texts.Exprs.{form_text}
use Rattle.reo_drawing.proofs.label_texts.Unfold.{form-one, form-two, form-if, joined-infix}
use Rattle.reo_drawing.proofs.label_texts.expr.+form.Goals as goal

pub append_form-returns-in-One : goal.append_form-returns-in-One
append_form-returns-in-One t c = rw (c.in-One.is, form-one c.args.inner c.in-One.operator c.in-One.operand, ← c.get-in-One.ensures) c.append_applied.ensures

pub append_form-returns-in-Pair : goal.append_form-returns-in-Pair
append_form-returns-in-Pair t c = rw (c.in-Two.is, form-two c.args.inner c.in-Two.operator c.in-Two.pair, c.in-Pair.is, ← c.get-pair.ensures) c.append_pair.ensures

pub append_form-returns-in_default : goal.append_form-returns-in_default
append_form-returns-in_default t c =
    let left : Bool → List ℕ = λ i. form_text i c.in-Two.pair.left in
    let right : Bool → List ℕ = λ i. form_text i c.in-Two.pair.right in
    rw (c.in-Two.is, form-two c.args.inner c.in-Two.operator c.in-Two.pair, joined-infix c.args.inner c.in-Two.operator left right c.in_default.not-Pair, ← c.get-pair.ensures) c.append_infix.ensures

pub append_form-returns-in_ok-append_form-in-If-3 : goal.append_form-returns-in_ok-append_form-in-If-3
append_form-returns-in_ok-append_form-in-If-3 t c = rw (c.in-If.is, form-if c.args.inner c.in-If.parts, ← c.get-parts.ensures) (grind (arith, common_steps))
