use Rattle.reo_lexer.proofs.Exists.{tokens_or_fault}
use Rattle.reo_lexer.proofs.laws.each_text_is_read.Goals as goal

pub returns : goal.returns
returns c text = tokens_or_fault text
