use Rattle.reo_script.proofs.OneEvent.{read-said}
use Rattle.reo_script.proofs.lines.answer_of.Goals as goal

pub returns : goal.returns
returns c = read-said c.args.line.now c.args.ports.now c.in_ok-form.form c.event_at.result c.in_ok-form.ensures c.event_at.ensures
