use Rattle.reo_grammar.proofs.Refusals.{decided, refused-silent, one-refusal}
use Rattle.reo_grammar.proofs.language.one_answer.Goals as goal

pub returns-clause-decided : goal.returns-clause-decided
returns-clause-decided g c ts = decided g.L.Language.table g.L.Language.form g.L.Language.productive g.L.Language.sighted ts

pub returns-clause-apart : goal.returns-clause-apart
returns-clause-apart g c ts u x h d r = refused-silent g.L.Language.rules g.L.Language.form ts u x h r d

pub returns-clause-one_place : goal.returns-clause-one_place
returns-clause-one_place g c ts u v h p q = one-refusal g.L.Language.rules g.L.Language.form ts u v h p q
