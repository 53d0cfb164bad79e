use Rattle.std.proofs.Common.{sym, ◌∙◌}
use Rattle.reo_lexer.proofs.Found.{name_front}
use Rattle.reo_lexer.proofs.front.name.Goals as goal

pub returns-else-is_reserved : goal.returns-else-is_reserved
returns-else-is_reserved c = name_front c.args.left.now c.name_length-length.result c.requires c.name_length-length.ensures (sym c.is_reserved.ensures ∙ c.if-is_reserved.false)
