use Rattle.reo_rounds.specs.Rules.{rules_of}
use Rattle.reo_proof_laws.proofs.Cutting.{proved_texts_are_cut}
use Rattle.reo_proof_laws.proofs.proofs.proved_texts_are_cut.Goals as goal

pub returns : goal.returns
returns g c =
    proved_texts_are_cut (rules_of g.P.Primitive.behaviour g.P.Primitive.settled g.P.Ported.port_state g.P.Ported.placed g.P.Ported.withdrawn) c.logs_are_lines.ensures
