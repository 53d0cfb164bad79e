use Rattle.reo_parser.proofs.two.Answered.{text-answered}
use Rattle.reo_parser.proofs.two.laws.each_text_of_any_is_answered.Goals as goal

pub returns : goal.returns
returns c = text-answered
