use Rattle.reo_script.proofs.scripts.Answered.{line_answered}
use Rattle.reo_script.proofs.scripts.laws.each_line_is_answered.Goals as goal

pub returns : goal.returns
returns c = line_answered
