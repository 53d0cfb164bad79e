use Rattle.std.proofs.Common.{◌<◌, length, subst, sym, arith}
use Rattle.std.proofs.lemmas.List.{length-map}
use Rattle.reo_net_base.specs.declared.joint.Joint.{Joint}
use Rattle.reo_net_base.specs.Behaviour.{Behaviour}
use Rattle.reo_net_base.specs.Net.{Net, net_of}
use Rattle.reo_net_base.specs.Wired.{IsEnd}
use Rattle.reo_joint_values.specs.Standing.{no_joint}
use Rattle.reo_item_bounds.proofs.checking.number_at.Goals as goal

pub primitive-primitive-requires : goal.primitive-primitive-requires
primitive-primitive-requires g c =
    let net : Net = net_of g.P.Primitive.behaviour c.args.circuit.now in
    let at : IsEnd net.primitives c.joint.result.giver = subst (λ (j : Joint). IsEnd net.primitives j.giver) (c.joint.ensures no_joint) (c.known.ensures.wired.givers c.args.joint no_joint c.requires) in
    let lt : c.joint.result.giver.primitive < length net.primitives = at.0 in
    omega (arith, lt, length-map c.args.circuit.now.primitives g.P.Primitive.behaviour)

pub form-requires : goal.form-requires
form-requires g c =
    let net : Net = net_of g.P.Primitive.behaviour c.args.circuit.now in
    let at : IsEnd net.primitives c.joint.result.giver = subst (λ (j : Joint). IsEnd net.primitives j.giver) (c.joint.ensures no_joint) (c.known.ensures.wired.givers c.args.joint no_joint c.requires) in
    let b : Behaviour = g.P.Primitive.behaviour c.primitive-primitive.result.now in
    let here : c.joint.result.giver.end < b.ends = subst (λ (d : Behaviour). c.joint.result.giver.end < d.ends) (sym c.primitive-primitive.ensures.behaviour) at.1 in
    rw (c.side_of-side.ensures) ((g.met.P.Primitive.lawful c.primitive-primitive.result.now).sides_in c.joint.result.giver.end here)
