use Rattle.reo_net_base.specs.Net.{Net, net_of}
use Rattle.reo_planning.proofs.Firsts.{first_by}
use Rattle.reo_planning.proofs.planning.first_colouring.Goals as goal

pub returns-clause-exact : goal.returns-clause-exact
returns-clause-exact g c =
    let net : Net = net_of g.P.Primitive.behaviour c.args.planning.now.circuit.now in
    first_by c.args.planning.now.budget net c.known.ensures.wired c.args.planning.now.knots.now c.requires.planning.knots c.args.planning.now.turn c.in_ok-rows.rows c.in_ok-rows.ensures.exact c.in_ok-fill_with.field-0 c.in_ok-fill_with.ensures.rows c.in_ok-fill_with.ensures.one
