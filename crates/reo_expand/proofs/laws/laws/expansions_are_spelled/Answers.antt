use Rattle.reo_expand.proofs.laws.ProgramLemmas.{expanded_spelled}
use Rattle.reo_expand.proofs.laws.laws.expansions_are_spelled.Goals as goal

pub returns : goal.returns
returns c = λ p spelled. expanded_spelled p.declarations spelled
