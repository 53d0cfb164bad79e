use Rattle.std.proofs.Common.{sym, refl, ◌∙◌}
use Rattle.reo_kinds.proofs.RuleLemmas.{image_inside, image_outside}
use Rattle.reo_kinds.proofs.rule.is_image.Goals as goal

pub returns-then-is_in : goal.returns-then-is_in
returns-then-is_in c =
    let same = image_inside c.args.rule.now c.args.item.now c.is_in.result c.is_in.ensures c.if-is_in.true in
    (λ h. same ∙ c.value_is.ensures.0 h, λ h. c.value_is.ensures.1 (sym same ∙ h))

pub returns-in-Unit : goal.returns-in-Unit
returns-in-Unit c =
    let same = image_outside c.args.rule.now c.args.item.now c.is_in.result c.is_in.ensures c.if-is_in.false in
    (λ h. same ∙ sym c.in-Unit.is, λ h. refl)

pub returns-in_default : goal.returns-in_default
returns-in_default c =
    let same = image_outside c.args.rule.now c.args.item.now c.is_in.result c.is_in.ensures c.if-is_in.false in
    (λ h. absurd cc, λ h. absurd (c.in_default.not-Unit (sym h ∙ same)))
