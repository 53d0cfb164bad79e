-- The parts of a pair one after another.
use Rattle.std.proofs.Common.{◌∙◌, sym, subst, ap}
use Rattle.reo_trees.specs.declared.types.Shape.TheVariants as shapes
use Rattle.reo_rules.specs.Judged.{IsFirst, IsJudged}
use Rattle.reo_rules_names.proofs.AfterLemmas.{judged_err, judged_right, first_left}
use Rattle.reo_rules_names.proofs.PartLemmas.{twice_parts, twice_parts-Pair}
use Rattle.reo_rules_names.proofs.twice.+type_twice.Goals as goal

pub returns-in_err-type_twice-in-Pair : goal.returns-in_err-type_twice-in-Pair
returns-in_err-type_twice-in-Pair t c =
    let pair = c.get-pair.result.now in
    let fault = c.in_err-type_twice-in-Pair.field-0.0 in
    let first = first_left (twice_parts pair.left.line pair.left.shape) (twice_parts pair.right.line pair.right.shape) fault c.in_err-type_twice-in-Pair.ensures in
    let is = ap (twice_parts c.args.line) (c.in-Pair.is ∙ ap shapes.Pair (sym c.get-pair.ensures)) ∙ twice_parts-Pair c.args.line pair in
    judged_err c.from_residual.result fault _ c.from_residual.ensures (subst (λ fs. IsFirst fs fault) (sym is) first)

pub returns-in_ok-type_twice-in-Pair : goal.returns-in_ok-type_twice-in-Pair
returns-in_ok-type_twice-in-Pair t c =
    let pair = c.get-pair.result.now in
    let answer = c.type_twice-in-Pair.result in
    let both = judged_right (twice_parts pair.left.line pair.left.shape) (twice_parts pair.right.line pair.right.shape) answer c.in_ok-type_twice-in-Pair.ensures c.type_twice-in-Pair.ensures in
    let is = ap (twice_parts c.args.line) (c.in-Pair.is ∙ ap shapes.Pair (sym c.get-pair.ensures)) ∙ twice_parts-Pair c.args.line pair in
    subst (λ fs. IsJudged fs answer) (sym is) both
