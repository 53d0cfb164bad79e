use Rattle.std.proofs.Common.{◌∙◌, Some, sym, rules}
use Rattle.std.specs.Int.{w64}
use Rattle.std.proofs.lemmas.Int.{to_z-of_z}
use Rattle.reo_values.specs.declared.kindred.Kindred.TheVariants as kinds
use Rattle.reo_exprs.proofs.Choices.{numbers_told}
use Rattle.reo_exprs.proofs.Near.{BoundsFit}
use Rattle.reo_exprs.proofs.Steps.{interval_within}
use Rattle.reo_exprs.proofs.typing.number_type.Goals as goal

pub arithmetic-requires-clause-left : goal.arithmetic-requires-clause-left
arithmetic-requires-clause-left c = interval_within c.args.x.now c.in_ok-x.x (sym c.in_ok-x.ensures) c.requires.left

pub arithmetic-requires-clause-right : goal.arithmetic-requires-clause-right
arithmetic-requires-clause-right c = interval_within c.args.y.now c.in_ok-y.y (sym c.in_ok-y.ensures) c.requires.right

pub returns : goal.returns
returns c =
    let fit : BoundsFit c.in_ok-made.made = search rules in
    (λ i. Some (kinds.Int (to_z-of_z w64 c.in_ok-made.made.low fit.low i) (to_z-of_z w64 c.in_ok-made.made.high fit.high i)))
    ∙ numbers_told c.args.op c.args.x.now c.args.y.now c.in_ok-x.x c.in_ok-y.y c.in_ok-made.made c.in_ok-x.ensures c.in_ok-y.ensures c.if-not-may_stand_right.ensures c.in_ok-made.ensures
