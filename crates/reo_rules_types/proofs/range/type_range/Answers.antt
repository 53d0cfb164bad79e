-- Too deep as a whole, or no part is too deep.
use Rattle.std.proofs.Common.{◌∙◌, nat_lt, sym, ap}
use Rattle.reo_rules.specs.Types.{depth_of}
use Rattle.reo_rules_types.specs.Scoped.{typed}
use Rattle.reo_rules_types.proofs.Kept.{at_told}
use Rattle.reo_rules_types.proofs.Ranged.{too_deep}
use Rattle.reo_rules_types.proofs.range.type_range.Goals as goal

pub returns-then-is_deeper-clause-judged : goal.returns-then-is_deeper-clause-judged
returns-then-is_deeper-clause-judged c =
    let at = at_told c.number_of.new.types c.in_ok-number.number _ c.in_ok-number.ensures.number in
    too_deep (typed c.args.types.now c.args.declared.now) c.args.term.now (ap (λ k. nat_lt 8 (depth_of k)) (sym at) ∙ sym c.if-is_deeper.ensures)

pub returns-clause-judged : goal.returns-clause-judged
returns-clause-judged c =
    let at = at_told c.number_of.new.types c.in_ok-number.number _ c.in_ok-number.ensures.number in
    c.shape_range.ensures.judged (typed c.args.types.now c.args.declared.now) (ap (λ k. nat_lt 8 (depth_of k)) (sym at) ∙ sym c.if-is_deeper.ensures)
