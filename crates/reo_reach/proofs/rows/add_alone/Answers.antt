use Rattle.std.proofs.lemmas.Result.{on_ok_weaker}
use Rattle.reo_net_base.specs.Net.{Net, net_of}
use Rattle.reo_joint_values.proofs.Sources.{flows_by}
use Rattle.reo_reach.proofs.RowLemmas.{some_alone, added_alone}
use Rattle.reo_reach.proofs.rows.add_alone.Goals as goal

pub gives-requires-clause-flows : goal.gives-requires-clause-flows
gives-requires-clause-flows g c =
    let net : Net = net_of g.P.Primitive.behaviour c.args.giving.now.circuit.now in
    rw (c.side_of-side.ensures, c.primitive-primitive.ensures.behaviour) (flows_by net c.known.ensures.wired c.args.giving.now.giver c.requires.giving.giver c.args.giving.now.row c.requires.flows)

pub gives-requires-clause-given : goal.gives-requires-clause-given
gives-requires-clause-given g c =
    let net : Net = net_of g.P.Primitive.behaviour c.args.giving.now.circuit.now in
    rw (c.side_of-side.ensures, c.primitive-primitive.ensures.behaviour) (some_alone net c.known.ensures.wired c.args.giving.now.giver c.requires.giving.giver c.args.giving.now.row c.requires.flows c.requires.alone)

pub returns : goal.returns
returns g c =
    let net : Net = net_of g.P.Primitive.behaviour c.args.giving.now.circuit.now in
    let given = rw (c.side_of-side.ensures, c.primitive-primitive.ensures.behaviour) at c.in_ok-item.ensures in
    on_ok_weaker c.add.result
    (added_alone net c.known.ensures.wired c.args.giving.now.giver c.requires.giving.giver c.args.giving.now.row c.requires.flows c.requires.alone c.in_ok-item.item given c.args.items.now c.add.new.items)
    c.add.ensures
