use Rattle.reo_top_laws.proofs.WordLemmas.{limits_told, told_limits}
use Rattle.reo_top_laws.proofs.laws.limits_are_said.Goals as goal

pub returns : goal.returns
returns c words budget rounds = (limits_told words budget rounds, told_limits words budget rounds)
