use Rattle.reo_refute_base.proofs.laws.OneAnswer.{one_wrong_line}
use Rattle.reo_refute_base.proofs.laws.answers.one_wrong_line.Goals as goal

pub returns : goal.returns
returns c = one_wrong_line
