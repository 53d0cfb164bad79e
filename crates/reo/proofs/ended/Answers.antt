use Rattle.reo.proofs.ended.Goals as goal

pub returns-in-Ok : goal.returns-in-Ok
returns-in-Ok g c = rw (c.in-Ok.is, c.exit_code.ensures) c.status_of.ensures
