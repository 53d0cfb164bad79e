use Rattle.std.proofs.Common.{◌∙◌, ◌<◌, Option, None, length, arith}
use Rattle.std.proofs.lemmas.List.{take_more, length-map, get_or-map}
use Rattle.reo_values.specs.declared.value.Value.{Value}
use Rattle.reo_net_base.specs.declared.joint.Joint.{Joint}
use Rattle.reo_net_base.specs.Net.{Net, net_of, end_of}
use Rattle.reo_net_laws.specs.JamRows.{no_items}
use Rattle.reo_net.proofs.plain.jam.no_items.Goals as goal

pub loop-index-preserved : goal.loop-index-preserved
loop-index-preserved g c =
    let net : Net = net_of g.P.Primitive.behaviour c.args.circuit.now in
    let d : Joint = record { giver = end_of 0 0; taker = end_of 0 0 } in
    let joint_in : c.loop-index.index < length net.joints = omega arith in
    let lt : c.loop-index.index < length (no_items net) = omega (arith, length-map {B = Option Value} net.joints (λ _. None)) in
    let none = get_or-map {Y = Option Value} (λ _. None) net.joints c.loop-index.index d None joint_in in
    c.in_ok-push.ensures.ok ∙ rw (take_more (no_items net) c.loop-index.index None lt, c.loop-index.invariant, none)
