use Rattle.reo_lexer.proofs.Begun.{text-begun, refused-before, refused-upto}
use Rattle.reo_lexer.proofs.laws.refusals_of_texts.Goals as goal

pub returns-clause-before : goal.returns-clause-before
returns-clause-before g c text ts us t h r = refused-before g.L.Language.rules g.L.Language.form text ts us t h r

pub returns-clause-at_end : goal.returns-clause-at_end
returns-clause-at_end g c text ts h r = text-begun g.L.Language.rules g.L.Language.form text ts h r.0

pub returns-clause-behind : goal.returns-clause-behind
returns-clause-behind g c text other ts us vs t x h r e i d = refused-upto g.L.Language.rules g.L.Language.form text other ts us vs t x h r e i d
