use Rattle.reo_kinds.proofs.RuleLaws.{classed}
use Rattle.reo_kinds.proofs.laws.classes_by_rule.Goals as goal

pub returns : goal.returns
returns c = classed
