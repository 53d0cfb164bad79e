use Rattle.reo_planning.proofs.Summing.{left_no_more}
use Rattle.reo_planning.proofs.laws.left_weighs_no_more.Goals as goal

pub returns : goal.returns
returns c = left_no_more
