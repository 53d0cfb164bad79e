use Rattle.reo_rounds.specs.Rules.{rules_of}
use Rattle.reo_rounds.specs.Lasting.{KeepsShape}
use Rattle.reo_proof_texts.proofs.FirstLemmas.{rounds_first}
use Rattle.reo_proof_texts.proofs.laws.verified_rounds_are_first.Goals as goal

pub returns : goal.returns
returns g c =
    let r = rules_of g.P.Primitive.behaviour g.P.Primitive.settled g.P.Ported.port_state g.P.Ported.placed g.P.Ported.withdrawn in
    let shape : KeepsShape r = record { lawful = g.met.P.Primitive.lawful; settled = g.met.P.Primitive.settled_shape; placed = g.met.P.Ported.placed_shape; withdrawn = g.met.P.Ported.withdrawn_shape } in
    rounds_first r shape c.right_logs_refute.ensures
