use Rattle.reo_script.proofs.scripts.Answered.{script_answered}
use Rattle.reo_script.proofs.scripts.laws.each_script_is_answered.Goals as goal

pub returns : goal.returns
returns c = script_answered
