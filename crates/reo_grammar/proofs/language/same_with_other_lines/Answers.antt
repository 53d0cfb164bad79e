use Rattle.reo_grammar.proofs.Lines.{says-alike}
use Rattle.reo_grammar.proofs.language.same_with_other_lines.Goals as goal

pub returns : goal.returns
returns g c ts us x a d = says-alike g.L.Language.rules g.L.Language.form ts us x a d
