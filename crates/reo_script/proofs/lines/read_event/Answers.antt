use Rattle.std.proofs.Common.{subst}
use Rattle.reo_script.specs.scripts.Events.{IsReadEvent}
use Rattle.reo_script.proofs.OneEvent.{only-event}
use Rattle.reo_script.proofs.lines.read_event.Goals as goal

pub returns-clause-only : goal.returns-clause-only
returns-clause-only c answer h =
    only-event c.args.line.now c.args.ports.now.list c.answer_of.result answer
    (subst (λ ps. IsReadEvent c.args.line.now ps c.answer_of.result) c.as_slice.ensures c.answer_of.ensures) h
