use Rattle.std.proofs.Common.{◌∙◌, ap, sym}
use Rattle.reo_values.specs.Pair.{right_of}
use Rattle.reo_exprs.proofs.Pairs.{right_of-Pair}
use Rattle.reo_exprs.proofs.Seen.{right_of-other}
use Rattle.reo_exprs.proofs.view.right_part.Goals as goal

pub returns-in-Pair : goal.returns-in-Pair
returns-in-Pair c = ap (λ y. y.right) c.get.ensures ∙ sym (right_of-Pair c.in-Pair.couple) ∙ sym (ap right_of c.in-Pair.is)

pub returns-in_default : goal.returns-in_default
returns-in_default c = right_of-other c.args.item.now c.in_default.not-Pair
