use Rattle.reo_kinds.proofs.RuleLemmas.{accepts_inside, accepts_outside}
use Rattle.reo_kinds.proofs.rule.accepts.Goals as goal

pub returns-then-is_in : goal.returns-then-is_in
returns-then-is_in c = accepts_inside c.args.rule.now c.args.item.now c.is_in.result c.truth_of.result c.is_in.ensures c.if-is_in.true c.truth_of.ensures

pub returns-else-is_in : goal.returns-else-is_in
returns-else-is_in c = accepts_outside c.args.rule.now c.args.item.now c.is_in.result c.is_in.ensures c.if-is_in.false
