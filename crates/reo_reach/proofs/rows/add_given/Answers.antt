use Rattle.std.proofs.Common.{◌≡◌, ◌∙◌, sym, ap, arith}
use Rattle.std.proofs.lemmas.Result.{on_ok_weaker}
use Rattle.reo_net_base.specs.Ends.{IsTaker}
use Rattle.reo_net_base.specs.Net.{Net, net_of, end_of}
use Rattle.reo_net_laws.specs.Ends.{from_in}
use Rattle.reo_net_circuit.specs.found_ends.Ends.{joint_at}
use Rattle.reo_net_circuit.proofs.found_ends.EndLemmas.{has_joint}
use Rattle.reo_reach.specs.Supplied.{items_at}
use Rattle.reo_joint_values.proofs.Sources.{flows_by, source_taker}
use Rattle.reo_reach.proofs.RowLemmas.{produced_alone, produced_for}
use Rattle.reo_reach.proofs.rows.add_given.Goals as goal

pub from-requires-clause-flows : goal.from-requires-clause-flows
from-requires-clause-flows g c =
    let net : Net = net_of g.P.Primitive.behaviour c.args.giving.now.circuit.now in
    rw (c.side_of-side.ensures, c.primitive-primitive.ensures.behaviour) (flows_by net c.known.ensures.wired c.args.giving.now.giver c.requires.giving.giver c.args.giving.now.row c.requires.flows)

pub add_alone-requires-clause-alone : goal.add_alone-requires-clause-alone
unfolding from_in
add_alone-requires-clause-alone g c = sym (rw (c.side_of-side.ensures, c.primitive-primitive.ensures.behaviour) at c.in-None.ensures)

pub joint_at-requires : goal.joint_at-requires
unfolding from_in
joint_at-requires g c =
    let net : Net = net_of g.P.Primitive.behaviour c.args.giving.now.circuit.now in
    let decides = sym (rw (c.side_of-side.ensures, c.primitive-primitive.ensures.behaviour) at c.in-Some.ensures) in
    let source : IsTaker net (end_of c.args.giving.now.giver.primitive c.in-Some.from) = source_taker net c.known.ensures.wired c.args.giving.now.giver c.requires.giving.giver c.args.giving.now.row c.requires.flows c.in-Some.from decides in
    has_joint net c.args.giving.now.ends.now c.requires.giving.ends (end_of c.args.giving.now.giver.primitive c.in-Some.from) source.is_end

pub items-taken-requires : goal.items-taken-requires
unfolding from_in
items-taken-requires g c =
    let net : Net = net_of g.P.Primitive.behaviour c.args.giving.now.circuit.now in
    let decides = sym (rw (c.side_of-side.ensures, c.primitive-primitive.ensures.behaviour) at c.in-Some.ensures) in
    let source : IsTaker net (end_of c.args.giving.now.giver.primitive c.in-Some.from) = source_taker net c.known.ensures.wired c.args.giving.now.giver c.requires.giving.giver c.args.giving.now.row c.requires.flows c.in-Some.from decides in
    let lt = c.requires.giving.ends.in_range (end_of c.args.giving.now.giver.primitive c.in-Some.from) source.is_end in
    omega (arith, lt, c.joint_at.ensures, c.requires.giving.supply.one_list)

pub add_passed-requires-clause-decides : goal.add_passed-requires-clause-decides
unfolding from_in
add_passed-requires-clause-decides g c = sym (rw (c.side_of-side.ensures, c.primitive-primitive.ensures.behaviour) at c.in-Some.ensures)

pub returns-in-None : goal.returns-in-None
unfolding from_in
returns-in-None g c =
    let net : Net = net_of g.P.Primitive.behaviour c.args.giving.now.circuit.now in
    let alone = sym (rw (c.side_of-side.ensures, c.primitive-primitive.ensures.behaviour) at c.in-None.ensures) in
    on_ok_weaker c.add_alone.result
    (produced_alone net c.known.ensures.wired c.args.giving.now.giver c.requires.giving.giver c.args.giving.now.row c.requires.flows alone c.args.giving.now.supply.now c.args.items.now c.add_alone.new.items)
    c.add_alone.ensures

pub returns-in-Some : goal.returns-in-Some
unfolding from_in
returns-in-Some g c =
    let net : Net = net_of g.P.Primitive.behaviour c.args.giving.now.circuit.now in
    let decides = sym (rw (c.side_of-side.ensures, c.primitive-primitive.ensures.behaviour) at c.in-Some.ensures) in
    let same : c.as_slice.result.now ≡ items_at c.args.giving.now.supply.now (joint_at c.args.giving.now.ends.now (end_of c.args.giving.now.giver.primitive c.in-Some.from)) =
    c.as_slice.ensures ∙ c.items-taken.ensures ∙ ap (items_at c.args.giving.now.supply.now) c.joint_at.ensures in
    on_ok_weaker c.add_passed.result
    (produced_for net c.known.ensures.wired c.args.giving.now.giver c.requires.giving.giver c.args.giving.now.row c.requires.flows c.in-Some.from decides c.args.giving.now.ends.now c.requires.giving.ends c.args.giving.now.supply.now c.as_slice.result.now same c.args.items.now c.add_passed.new.items)
    c.add_passed.ensures
