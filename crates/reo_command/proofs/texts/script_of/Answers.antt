use Rattle.reo_command.proofs.texts.script_of.Goals as goal

pub returns-in-Ok-clause-fit : goal.returns-in-Ok-clause-fit
returns-in-Ok-clause-fit c = c.scripts_fit.ensures c.args.text.now c.args.ports.now.list c.in-Ok.script c.in-Ok.ensures.read
