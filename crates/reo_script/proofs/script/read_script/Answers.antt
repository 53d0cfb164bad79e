use Rattle.std.proofs.Common.{subst}
use Rattle.reo_script.specs.scripts.ScriptAnswers.{IsRead}
use Rattle.reo_script.proofs.Only.{only}
use Rattle.reo_script.proofs.script.read_script.Goals as goal

pub returns-clause-only : goal.returns-clause-only
returns-clause-only c answer h =
    only c.args.text.now c.args.ports.now.list c.answer_of.result answer (subst (λ ps. IsRead c.args.text.now ps c.answer_of.result) c.as_slice.ensures c.answer_of.ensures) h
