use Rattle.std.proofs.Common.{◌<◌, List, length, map, arith}
use Rattle.std.proofs.lemmas.List.{length-map}
use Rattle.reo_net_base.specs.Behaviour.{Behaviour}
use Rattle.reo_net_circuit.proofs.circuit.Circuit.owner.Goals as goal
use Rattle.reo_net_circuit.proofs.Sides.{side_is}

pub returns-clause-owner : goal.returns-clause-owner
returns-clause-owner g c = λ e.
    let bs : List Behaviour = map g.P.Primitive.behaviour c.args.self.now.primitives in
    let p_in : c.stands.result.primitive < length bs = omega (arith, c.stands.ensures.primitive, length-map c.args.self.now.primitives g.P.Primitive.behaviour) in
    rw c.stands.ensures.place (side_is bs c.stands.result.primitive c.stands.result.side e p_in c.stands.ensures.side)
