use Rattle.std.proofs.Common.{ap, Err}
use Rattle.reo_draw_command.proofs.NumberLemmas.{none_read}
use Rattle.reo_draw_command.proofs.round.number_of.Goals as goal

pub returns-in-Err-NotALiteral : goal.returns-in-Err-NotALiteral
returns-in-Err-NotALiteral c = none_read c.args.word.now (c.in-Err-NotALiteral.ensures.none (ap (λ e. Err e) c.in-Err-NotALiteral.field-0-is))
