use Rattle.reo_reach.proofs.WidthLemmas.{many_not_clear}
use Rattle.reo_reach.proofs.laws.many_are_not_clear.Goals as goal

pub returns : goal.returns
returns c = many_not_clear
