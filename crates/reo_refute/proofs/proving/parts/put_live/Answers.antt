use Rattle.reo_net_base.specs.Net.{Net, net_of}
use Rattle.reo_refute.proofs.proving.Firsts.{never_settles}
use Rattle.reo_refute.proofs.proving.Writing.{live_made}
use Rattle.reo_refute.proofs.proving.parts.put_live.Goals as goal

pub put_branch-requires-clause-never : goal.put_branch-requires-clause-never
put_branch-requires-clause-never g c =
    let net : Net = net_of g.P.Primitive.behaviour c.args.round.now.circuit.now in
    never_settles net c.known.ensures.wired c.order-order.result.now c.order-order.ensures c.rows_differ.ensures c.choices_are_assignments.ensures c.args.round.now.turn c.args.round.now.given.now c.requires.round.given c.requires.first
    c.args.round.now.lists.now c.args.number c.requires.live

pub returns-clause-made : goal.returns-clause-made
returns-clause-made g c =
    let net : Net = net_of g.P.Primitive.behaviour c.args.round.now.circuit.now in
    live_made net c.args.round.now.turn c.args.round.now.given.now c.args.round.now.lists.now c.args.number c.requires.live c.args.out.now c.put_line.new.out c.put_branch.new.out c.requires.small c.in_ok-put_line.ensures c.in_ok-put_branch.ensures.made
