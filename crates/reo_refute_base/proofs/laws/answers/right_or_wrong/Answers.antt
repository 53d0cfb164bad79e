use Rattle.reo_refute_base.proofs.laws.OneAnswer.{right_or_wrong}
use Rattle.reo_refute_base.proofs.laws.answers.right_or_wrong.Goals as goal

pub returns : goal.returns
returns c = right_or_wrong
