-- The parts of a pair one after another.
use Rattle.std.proofs.Common.{◌∙◌, sym, subst, ap}
use Rattle.reo_trees.specs.declared.types.Shape.TheVariants as shapes
use Rattle.reo_rules.specs.Judged.{IsFirst, IsJudged}
use Rattle.reo_rules_names.proofs.AfterLemmas.{judged_err, judged_right, first_left}
use Rattle.reo_rules_names.proofs.PartLemmas.{unknown_parts, unknown_parts-Pair}
use Rattle.reo_rules_names.proofs.unknown.+type_unknown.Goals as goal

pub returns-in_err-type_unknown-in-Pair : goal.returns-in_err-type_unknown-in-Pair
returns-in_err-type_unknown-in-Pair t c =
    let pair = c.get-pair.result.now in
    let fault = c.in_err-type_unknown-in-Pair.field-0.0 in
    let first = first_left (unknown_parts c.args.types.now pair.left.line pair.left.shape) (unknown_parts c.args.types.now pair.right.line pair.right.shape) fault c.in_err-type_unknown-in-Pair.ensures in
    let is = ap (unknown_parts c.args.types.now c.args.line) (c.in-Pair.is ∙ ap shapes.Pair (sym c.get-pair.ensures)) ∙ unknown_parts-Pair c.args.types.now c.args.line pair in
    judged_err c.from_residual.result fault _ c.from_residual.ensures (subst (λ fs. IsFirst fs fault) (sym is) first)

pub returns-in_ok-type_unknown-in-Pair : goal.returns-in_ok-type_unknown-in-Pair
returns-in_ok-type_unknown-in-Pair t c =
    let pair = c.get-pair.result.now in
    let answer = c.type_unknown-in-Pair.result in
    let both = judged_right (unknown_parts c.args.types.now pair.left.line pair.left.shape) (unknown_parts c.args.types.now pair.right.line pair.right.shape) answer c.in_ok-type_unknown-in-Pair.ensures c.type_unknown-in-Pair.ensures in
    let is = ap (unknown_parts c.args.types.now c.args.line) (c.in-Pair.is ∙ ap shapes.Pair (sym c.get-pair.ensures)) ∙ unknown_parts-Pair c.args.types.now c.args.line pair in
    subst (λ fs. IsJudged fs answer) (sym is) both
