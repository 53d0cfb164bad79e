use Rattle.reo_parser.proofs.Answered.{text_answered}
use Rattle.reo_parser.proofs.laws.each_text_is_answered.Goals as goal

pub returns : goal.returns
returns c = text_answered
