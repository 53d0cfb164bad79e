use Rattle.reo_script.proofs.OneEvent.{none-silent}
use Rattle.reo_script.proofs.lines.said_by.Goals as goal

pub returns-in-None : goal.returns-in-None
returns-in-None c =
    none-silent c.args.line.now c.args.tokens.now c.requires.tokens (rw c.in-None.is at c.in_ok-event.ensures)
