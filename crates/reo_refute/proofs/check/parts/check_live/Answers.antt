use Rattle.reo_net_base.specs.Net.{Net, net_of}
use Rattle.reo_refute.proofs.check.Taking.{at_stops, place_taken}
use Rattle.reo_refute.proofs.check.parts.check_live.Goals as goal

pub returns-in-Err-clause-taken : goal.returns-in-Err-clause-taken
returns-in-Err-clause-taken g c =
    let net : Net = net_of g.P.Primitive.behaviour c.args.round.now.circuit.now in
    at_stops net c.args.round.now.turn c.args.round.now.given.now c.args.round.now.lists.now c.args.number c.requires.live c.args.lines.now c.take_at.new.lines c.take_at.new.lines c.in-Err.stop c.in-Err.ensures

pub returns-in-Ok-clause-taken : goal.returns-in-Ok-clause-taken
returns-in-Ok-clause-taken g c =
    let net : Net = net_of g.P.Primitive.behaviour c.args.round.now.circuit.now in
    place_taken net c.args.round.now.turn c.args.round.now.given.now c.args.round.now.lists.now c.args.number c.requires.live c.args.lines.now c.take_at.new.lines c.check_part.new.lines c.in-Ok.ensures c.check_part.result c.check_part.ensures.part
