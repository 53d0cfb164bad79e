use Rattle.reo_grammar.proofs.Exact.{one-tree}
use Rattle.reo_grammar.proofs.language.one_tree.Goals as goal

pub returns : goal.returns
returns g c = one-tree g.L.Language.table g.L.Language.form g.L.Language.productive g.L.Language.sighted
