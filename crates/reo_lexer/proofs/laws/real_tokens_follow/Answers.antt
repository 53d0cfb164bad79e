use Rattle.reo_lexer.proofs.Onward.{real-goes-on}
use Rattle.reo_lexer.proofs.laws.real_tokens_follow.Goals as goal

pub returns : goal.returns
returns c text ts more h r = real-goes-on text ts more h r
