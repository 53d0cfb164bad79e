use Rattle.reo_lexer.proofs.Onward.{front-tokens}
use Rattle.reo_lexer.proofs.laws.tokens_of_front.Goals as goal

pub returns : goal.returns
returns c text ts us t h = front-tokens text ts t us h
