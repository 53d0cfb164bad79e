-- The parts of a pair one after another.
use Rattle.std.proofs.Common.{◌∙◌, sym, ap, subst}
use Rattle.reo_trees.specs.declared.types.Shape.TheVariants as shapes
use Rattle.reo_rules.specs.Judged.{IsFirst, IsJudged}
use Rattle.reo_rules.specs.Ranges.{range_in_type}
use Rattle.reo_rules_types.proofs.AfterLemmas.{judged_err, judged_right, first_left}
use Rattle.reo_rules_types.proofs.Ranged.{range-Pair, parts_low}
use Rattle.reo_rules_types.proofs.range.+shape_range.Goals as goal

pub returns-in_err-shape_range-in-Pair-clause-judged : goal.returns-in_err-shape_range-in-Pair-clause-judged
returns-in_err-shape_range-in-Pair-clause-judged t c known low =
    let p = c.get-pair.result.now in
    let is = c.in-Pair.is ∙ ap shapes.Pair (sym c.get-pair.ensures) in
    let fault = c.in_err-shape_range-in-Pair.field-0.0 in
    let deep = parts_low known c.args.shape.now p is low in
    judged_err c.from_residual.result fault _ c.from_residual.ensures
    (subst (λ fs. IsFirst fs fault) (sym (range-Pair known c.args.line c.args.shape.now p is low))
    (first_left (range_in_type known p.left) (range_in_type known p.right) fault (c.in_err-shape_range-in-Pair.ensures.judged known deep.0)))

pub returns-in_ok-shape_range-in-Pair-clause-judged : goal.returns-in_ok-shape_range-in-Pair-clause-judged
returns-in_ok-shape_range-in-Pair-clause-judged t c known low =
    let p = c.get-pair.result.now in
    let is = c.in-Pair.is ∙ ap shapes.Pair (sym c.get-pair.ensures) in
    let answer = c.shape_range-in-Pair.result in
    let deep = parts_low known c.args.shape.now p is low in
    subst (λ fs. IsJudged fs answer) (sym (range-Pair known c.args.line c.args.shape.now p is low))
    (judged_right (range_in_type known p.left) (range_in_type known p.right) answer (c.in_ok-shape_range-in-Pair.ensures.judged known deep.0) (c.shape_range-in-Pair.ensures.judged known deep.1))
