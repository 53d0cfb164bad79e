use Rattle.std.proofs.Common.{subst}
use Rattle.reo_net_base.specs.declared.joint.Joint.{Joint}
use Rattle.reo_net_base.specs.Net.{Net, net_of}
use Rattle.reo_net_base.specs.Wired.{IsEnd}
use Rattle.reo_joint_values.specs.Standing.{no_joint}
use Rattle.reo_flows.proofs.flowing.flowing.flows.Goals as goal

pub side_of-requires : goal.side_of-requires
side_of-requires g c =
    let net : Net = net_of g.P.Primitive.behaviour c.args.circuit.now in
    subst (λ (j : Joint). IsEnd net.primitives j.giver) (c.joint.ensures no_joint) (c.known.ensures.wired.givers c.args.joint no_joint c.requires.joint)
