use Rattle.reo_rounds.specs.Rules.{rules_of}
use Rattle.reo_rounds.specs.Lasting.{KeepsShape}
use Rattle.reo_live.proofs.base.OneLemmas.{after_one}
use Rattle.reo_live.proofs.base.laws.hearing_is_one.Goals as goal

pub returns : goal.returns
returns g c =
    let r = rules_of g.P.Primitive.behaviour g.P.Primitive.settled g.P.Ported.port_state g.P.Ported.placed g.P.Ported.withdrawn in
    let shape : KeepsShape r = record { lawful = g.met.P.Primitive.lawful; settled = g.met.P.Primitive.settled_shape; placed = g.met.P.Ported.placed_shape; withdrawn = g.met.P.Ported.withdrawn_shape } in
    λ ports budget s t u bytes x y old h k. after_one r budget c.first_is_one.ensures c.cause_is_one.ensures ports shape s t u bytes x y old h k
