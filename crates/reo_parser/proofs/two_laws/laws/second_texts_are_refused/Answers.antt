use Rattle.reo_parser.proofs.two_laws.Versions.{second-refused}
use Rattle.reo_parser.proofs.two_laws.laws.second_texts_are_refused.Goals as goal

pub returns : goal.returns
returns c = second-refused
