-- The text of a round's line is that of the answer that it tells.
use Rattle.std.proofs.Common.{◌∙◌, ap, sym}
use Rattle.reo_live.specs.base.Answers.{answer_text}
use Rattle.reo_live.proofs.talk.answering.text_of.Goals as goal

pub returns-in-Made : goal.returns-in-Made
unfolding answer_text
returns-in-Made c answer tells =
    let is = rw c.in-Made.is at tells in
    is.2 ∙ ap (answer_text c.args.ports.now.list) (sym is.1)
