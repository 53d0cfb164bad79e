use Rattle.std.proofs.Common.{◌∙◌, Some, ap}
use Rattle.reo_exprs.proofs.Steps.{part_told, part_none}
use Rattle.reo_exprs.proofs.parts.right_type.Goals as goal

pub returns-in_ok-copy_kindred-in-Pair : goal.returns-in_ok-copy_kindred-in-Pair
returns-in_ok-copy_kindred-in-Pair c = ap Some c.in_ok-copy_kindred-in-Pair.ensures ∙ part_told (λ t. t.right) c.args.kindred.now c.in-Pair.twins c.get.result.now c.in-Pair.is c.get.ensures

pub returns-in_default : goal.returns-in_default
returns-in_default c = part_none (λ t. t.right) c.args.kindred.now c.in_default.not-Pair
