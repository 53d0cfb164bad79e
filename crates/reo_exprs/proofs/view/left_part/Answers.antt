use Rattle.std.proofs.Common.{◌∙◌, ap, sym}
use Rattle.reo_values.specs.Pair.{left_of}
use Rattle.reo_exprs.proofs.Pairs.{left_of-Pair}
use Rattle.reo_exprs.proofs.Seen.{left_of-other}
use Rattle.reo_exprs.proofs.view.left_part.Goals as goal

pub returns-in-Pair : goal.returns-in-Pair
returns-in-Pair c = ap (λ y. y.left) c.get.ensures ∙ sym (left_of-Pair c.in-Pair.couple) ∙ sym (ap left_of c.in-Pair.is)

pub returns-in_default : goal.returns-in_default
returns-in_default c = left_of-other c.args.item.now c.in_default.not-Pair
