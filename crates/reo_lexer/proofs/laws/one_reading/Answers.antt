use Rattle.reo_lexer.proofs.Reading.{one-list, one-fault, not-both}
use Rattle.reo_lexer.proofs.laws.one_reading.Goals as goal

pub returns-clause-tokens : goal.returns-clause-tokens
returns-clause-tokens c text ts us h i = one-list text ts us h i

pub returns-clause-fault : goal.returns-clause-fault
returns-clause-fault c text f g h i = one-fault text f g h i

pub returns-clause-apart : goal.returns-clause-apart
returns-clause-apart c text ts f h i = not-both text ts f h i
