use Rattle.std.proofs.Common.{sym}
use Rattle.reo_kinds.proofs.RuleLemmas.{image_inside, image_outside}
use Rattle.reo_kinds.proofs.rule.image.Goals as goal

pub returns-then-is_in : goal.returns-then-is_in
returns-then-is_in c = rw (image_inside c.args.rule.now c.args.item.now c.is_in.result c.is_in.ensures c.if-is_in.true) c.value_of.ensures

pub returns-else-is_in : goal.returns-else-is_in
returns-else-is_in c = sym (image_outside c.args.rule.now c.args.item.now c.is_in.result c.is_in.ensures c.if-is_in.false)
