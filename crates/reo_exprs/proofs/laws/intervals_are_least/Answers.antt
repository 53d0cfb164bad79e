use Rattle.reo_exprs.proofs.Least.{are_least}
use Rattle.reo_exprs.proofs.laws.intervals_are_least.Goals as goal

pub returns : goal.returns
returns c = are_least
