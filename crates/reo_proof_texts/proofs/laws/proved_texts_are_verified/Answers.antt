use Rattle.reo_rounds.specs.Rules.{rules_of}
use Rattle.reo_proof_texts.proofs.FirstLemmas.{proved_verified}
use Rattle.reo_proof_texts.proofs.laws.proved_texts_are_verified.Goals as goal

pub returns : goal.returns
returns g c = proved_verified (rules_of g.P.Primitive.behaviour g.P.Primitive.settled g.P.Ported.port_state g.P.Ported.placed g.P.Ported.withdrawn)
