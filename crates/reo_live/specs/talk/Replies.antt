-- The answer that is told of a line.
use Rattle.std.specs.Prelude.{◌≡◌, Option, Some, None, List}
use Rattle.reo_net_base.specs.declared.port.Port.{Port}
use Rattle.reo_trace.specs.declared.line.RoundLine.{RoundLine}
use Rattle.reo_trace.specs.RoundText.{round_text}
use Rattle.reo_live.specs.declared.base.answer.Answer.{Answer}
use Rattle.reo_live.specs.declared.base.answer.Answer.TheVariants as answers
use Rattle.reo_live.specs.declared.talk.reply.Reply.{Reply}
use Rattle.reo_live.specs.declared.talk.reply.Reply.TheVariants as replies

-- It tells this answer: of a round that was made by the text of its line.
abbrev pub Tells : List Port → Reply → Answer → Type 0
Tells ports (replies.Made text) answer = (line : RoundLine) × (answer ≡ answers.Made line) × (text ≡ round_text ports line)
Tells ports (replies.Other told) answer = told ≡ answer

-- It tells this answer, or that there is none.
abbrev pub TellsIf : List Port → Option Reply → Option Answer → Type 0
TellsIf ports None answer = answer ≡ None
TellsIf ports (Some reply) answer = (told : Answer) × (answer ≡ Some told) × Tells ports reply told
