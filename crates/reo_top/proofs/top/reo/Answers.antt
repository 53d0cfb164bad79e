use Rattle.reo_top.specs.Comes.{ComesTo}
use Rattle.reo_top.proofs.ComeLemmas.{come_along}
use Rattle.reo_top.proofs.CompleteLemmas.{complete}
use Rattle.reo_top.proofs.HeadlineLemmas.{headline}
use Rattle.reo_top.proofs.top.reo.Goals as goal

pub returns-clause-answer : goal.returns-clause-answer
returns-clause-answer g c = (come_along c.args.words.now _ _ _ _ _ _ _ c.as_slice.ensures c.come_to.ensures).answer

pub returns-clause-honest : goal.returns-clause-honest
returns-clause-honest g c = (come_along c.args.words.now _ _ _ _ _ _ _ c.as_slice.ensures c.come_to.ensures).honest

pub returns-clause-inputs : goal.returns-clause-inputs
returns-clause-inputs g c = (come_along c.args.words.now _ _ _ _ _ _ _ c.as_slice.ensures c.come_to.ensures).inputs

pub returns-clause-headline : goal.returns-clause-headline
returns-clause-headline g c = headline c.runs_are_justified.ensures c.circuits_are_made.ensures c.circuit_names_are_plain.ensures c.args.words.now _ _ _ _ (returns-clause-answer g c)

pub returns-clause-complete : goal.returns-clause-complete
returns-clause-complete g c = complete c.args.words.now _ _ _ _ (returns-clause-answer g c) (returns-clause-headline g c) (returns-clause-honest g c).fair
