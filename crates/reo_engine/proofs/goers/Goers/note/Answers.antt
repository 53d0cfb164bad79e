use Rattle.reo_engine.proofs.goers.Goers.note.Goals as goal

pub returns-clause-going : goal.returns-clause-going
returns-clause-going c = rw c.copy_from.ensures at c.keep_where.ensures
