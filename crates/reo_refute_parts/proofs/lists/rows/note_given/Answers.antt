use Rattle.std.proofs.Common.{◌≡◌, ◌∙◌, ◌<◌, [], length, sym, ap, arith}
use Rattle.std.proofs.lemmas.List.{get_or_default}
use Rattle.std.proofs.lemmas.Result.{on_ok_weaker}
use Rattle.reo_net_base.specs.Ends.{IsTaker}
use Rattle.reo_net_base.specs.Net.{Net, net_of, end_of}
use Rattle.reo_net_laws.specs.Ends.{from_in}
use Rattle.reo_net_circuit.specs.found_ends.Ends.{joint_at}
use Rattle.reo_net_circuit.proofs.found_ends.EndLemmas.{has_joint}
use Rattle.reo_refute_base.specs.Items.{Lists, items_at}
use Rattle.reo_refute_parts.proofs.lists.RowLemmas.{flows_by, source_taker, noted_state, noted_given}
use Rattle.reo_refute_parts.proofs.lists.rows.note_given.Goals as goal

pub from-requires-clause-flows : goal.from-requires-clause-flows
from-requires-clause-flows g c =
    let net : Net = net_of g.P.Primitive.behaviour c.args.giving.now.circuit.now in
    rw (c.side_of-side.ensures, c.primitive-primitive.ensures.behaviour) (flows_by net c.known.ensures.wired c.args.giving.now.giver c.requires.giver c.args.giving.now.row c.requires.flows)

pub note_alone-requires-clause-alone : goal.note_alone-requires-clause-alone
unfolding from_in
note_alone-requires-clause-alone g c = sym (rw (c.side_of-side.ensures, c.primitive-primitive.ensures.behaviour) at c.in-None.ensures)

pub joint_at-requires : goal.joint_at-requires
unfolding from_in
joint_at-requires g c =
    let net : Net = net_of g.P.Primitive.behaviour c.args.giving.now.circuit.now in
    let decides = sym (rw (c.side_of-side.ensures, c.primitive-primitive.ensures.behaviour) at c.in-Some.ensures) in
    let source : IsTaker net (end_of c.args.giving.now.giver.primitive c.in-Some.from) = source_taker net c.known.ensures.wired c.args.giving.now.giver c.requires.giver c.args.giving.now.row c.requires.flows c.in-Some.from decides in
    has_joint net c.args.giving.now.ends.now c.requires.ends (end_of c.args.giving.now.giver.primitive c.in-Some.from) source.is_end

pub offset_bounds-giving-joint_at : goal.offset_bounds-giving-joint_at
unfolding from_in
offset_bounds-giving-joint_at g c =
    let net : Net = net_of g.P.Primitive.behaviour c.args.giving.now.circuit.now in
    let decides = sym (rw (c.side_of-side.ensures, c.primitive-primitive.ensures.behaviour) at c.in-Some.ensures) in
    let source : IsTaker net (end_of c.args.giving.now.giver.primitive c.in-Some.from) = source_taker net c.known.ensures.wired c.args.giving.now.giver c.requires.giver c.args.giving.now.row c.requires.flows c.in-Some.from decides in
    let lt = c.requires.ends.in_range (end_of c.args.giving.now.giver.primitive c.in-Some.from) source.is_end in
    omega (arith, lt, c.joint_at.ensures, c.known.ensures.few_joints)

pub bounds-giving-joint_at : goal.bounds-giving-joint_at
unfolding from_in
bounds-giving-joint_at g c =
    let net : Net = net_of g.P.Primitive.behaviour c.args.giving.now.circuit.now in
    let decides = sym (rw (c.side_of-side.ensures, c.primitive-primitive.ensures.behaviour) at c.in-Some.ensures) in
    let source : IsTaker net (end_of c.args.giving.now.giver.primitive c.in-Some.from) = source_taker net c.known.ensures.wired c.args.giving.now.giver c.requires.giver c.args.giving.now.row c.requires.flows c.in-Some.from decides in
    let lt = c.requires.ends.in_range (end_of c.args.giving.now.giver.primitive c.in-Some.from) source.is_end in
    omega (arith, lt, c.joint_at.ensures, c.requires.lists)

pub returns-in-Some : goal.returns-in-Some
unfolding from_in
returns-in-Some g c =
    let net : Net = net_of g.P.Primitive.behaviour c.args.giving.now.circuit.now in
    let decides = sym (rw (c.side_of-side.ensures, c.primitive-primitive.ensures.behaviour) at c.in-Some.ensures) in
    let source : IsTaker net (end_of c.args.giving.now.giver.primitive c.in-Some.from) = source_taker net c.known.ensures.wired c.args.giving.now.giver c.requires.giver c.args.giving.now.row c.requires.flows c.in-Some.from decides in
    let lt = c.requires.ends.in_range (end_of c.args.giving.now.giver.primitive c.in-Some.from) source.is_end in
    let lists : Lists = c.args.giving.now.lists.now in
    let in_lists : c.joint_at.result < length lists = omega (arith, lt, c.joint_at.ensures, c.requires.lists) in
    let same : c.as_slice-taken.result.now ≡ items_at lists (joint_at c.args.giving.now.ends.now (end_of c.args.giving.now.giver.primitive c.in-Some.from)) =
    c.as_slice-taken.ensures ∙ get_or_default lists c.joint_at.result c.index-giving-joint_at.result [] in_lists ∙ ap (items_at lists) c.joint_at.ensures in
    on_ok_weaker c.note_passed.result
    (noted_given net c.known.ensures.wired c.args.giving.now.giver c.requires.giver c.args.giving.now.row c.requires.flows c.in-Some.from decides c.args.giving.now.ends.now c.requires.ends lists c.as_slice-taken.result.now same c.args.old.now c.args.new.now c.note_passed.new.new)
    c.note_passed.ensures

pub note_passed-requires-clause-decides : goal.note_passed-requires-clause-decides
unfolding from_in
note_passed-requires-clause-decides g c = sym (rw (c.side_of-side.ensures, c.primitive-primitive.ensures.behaviour) at c.in-Some.ensures)

pub returns-in-None : goal.returns-in-None
unfolding from_in
returns-in-None g c =
    let net : Net = net_of g.P.Primitive.behaviour c.args.giving.now.circuit.now in
    let alone = sym (rw (c.side_of-side.ensures, c.primitive-primitive.ensures.behaviour) at c.in-None.ensures) in
    on_ok_weaker c.note_alone.result
    (noted_state net c.args.giving.now.giver c.args.giving.now.row alone c.args.giving.now.lists.now c.args.old.now c.args.new.now c.note_alone.new.new)
    c.note_alone.ensures
