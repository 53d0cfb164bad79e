use Rattle.reo_net_base.specs.Net.{Net, net_of}
use Rattle.reo_rows.specs.Sets.{family_of, names_of}
use Rattle.reo_propagate.specs.Queues.{among}
use Rattle.reo_walk.proofs.Settling.{walked_first, one_less}
use Rattle.reo_walk.proofs.arranging.first_by.Goals as goal

pub returns-in-Some-clause-first : goal.returns-in-Some-clause-first
returns-in-Some-clause-first g c =
    let net : Net = net_of g.P.Primitive.behaviour c.args.basis.now.circuit.now in
    let walked = rw (c.in-Some.is) at c.in_ok-walk.ensures.found in
    walked_first net (names_of c.args.basis.now.items.now) (among c.args.sides.now) c.args.turn (family_of c.args.state.now.alive) (family_of c.walk.new.state.alive) c.args.places.now c.in-Some.chosen c.requires.knot walked
    (one_less net (among c.args.sides.now) (family_of c.args.state.now.alive) (family_of c.walk.new.state.alive) walked.less c.requires.one)
