use Rattle.reo_grammar.proofs.Exact.{refused-exact, refused-rest}
use Rattle.reo_grammar.proofs.language.refusal_is_exact.Goals as goal

pub returns-clause-stopped : goal.returns-clause-stopped
returns-clause-stopped g c ts u room h e = refused-exact g.L.Language.table g.L.Language.form g.L.Language.productive g.L.Language.sighted room ts h u e

pub returns-clause-rest : goal.returns-clause-rest
returns-clause-rest g c ts u room x t h e = refused-rest g.L.Language.table g.L.Language.form g.L.Language.productive g.L.Language.sighted room ts h x t u e
