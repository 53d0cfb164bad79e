use Rattle.reo_refute_base.proofs.laws.LineTexts.{lines_are_told}
use Rattle.reo_refute_base.proofs.laws.answers.lines_are_told.Goals as goal

pub returns : goal.returns
returns c = lines_are_told
