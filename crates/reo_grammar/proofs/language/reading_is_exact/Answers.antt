use Rattle.reo_grammar.proofs.Exact.{said, read-said, no-out}
use Rattle.reo_grammar.proofs.language.reading_is_exact.Goals as goal

pub returns-clause-sound : goal.returns-clause-sound
returns-clause-sound g c ts room x h e = said g.L.Language.table g.L.Language.form g.L.Language.productive g.L.Language.sighted room ts h x e

pub returns-clause-complete : goal.returns-clause-complete
returns-clause-complete g c ts room x h d = read-said g.L.Language.table g.L.Language.form g.L.Language.productive g.L.Language.sighted room ts h x d

pub returns-clause-enough : goal.returns-clause-enough
returns-clause-enough g c ts room h e = no-out g.L.Language.table g.L.Language.form g.L.Language.productive g.L.Language.sighted room ts h e
