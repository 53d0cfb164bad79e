use Rattle.std.proofs.Common.{◌∙◌, sym}
use Rattle.reo_net_base.specs.declared.joint.Joint.{Joint}
use Rattle.reo_net_base.specs.Net.{Net, net_of}
use Rattle.reo_net_base.specs.Sides.{side_count}
use Rattle.reo_net_laws.specs.Parts.{SameKnot}
use Rattle.reo_net_laws.specs.Knots.{AreNumbers}
use Rattle.reo_net_laws.proofs.Knots.{numbered, knots}
use Rattle.reo_knots.proofs.knots.find_knots.Goals as goal

pub invariant_of-result : goal.invariant_of-result
invariant_of-result g c =
    let some : Joint = record { giver = record { primitive = 0; end = 0 }; taker = record { primitive = 0; end = 0 } } in
    let group = c.in_ok-loop_joints.ensures some in
    group.one_each ∙ sym c.in_ok-sides.ensures.one_each

pub returns : goal.returns
returns g c =
    let net : Net = net_of g.P.Primitive.behaviour c.args.circuit.now in
    let by_label = rw c.as_slice.ensures.value at c.in_ok-numbers.ensures in
    let are : AreNumbers (SameKnot net) (side_count net) c.in_ok-numbers.field-0.numbers.items c.in_ok-numbers.field-0.count =
    numbered net c.in_ok-labels.field-0.labels.items c.in_ok-numbers.field-0.numbers.items c.in_ok-numbers.field-0.count c.in_ok-labels.ensures.labels by_label in
    let sides_are = rw c.as_slice-2.ensures.value at c.in_ok-sides.ensures in
    let loops_are = rw (c.as_slice-3.ensures.value, c.as_slice-4.ensures.value) at c.in_ok-loop_joints.ensures in
    knots net c.known.ensures.wired c.in_ok-numbers.field-0.numbers.items c.in_ok-labels.field-0.loops.items c.in_ok-numbers.field-0.count c.in_ok-sides.sides.items c.in_ok-loop_joints.loop_joints.items
    are c.in_ok-labels.ensures.loops sides_are loops_are
