use Rattle.reo_rounds.specs.Rules.{rules_of}
use Rattle.reo_proof_texts.proofs.FirstLemmas.{proved_of_runs}
use Rattle.reo_proof_texts.proofs.laws.proved_texts_are_of_runs.Goals as goal

pub returns : goal.returns
returns g c = proved_of_runs (rules_of g.P.Primitive.behaviour g.P.Primitive.settled g.P.Ported.port_state g.P.Ported.placed g.P.Ported.withdrawn)
