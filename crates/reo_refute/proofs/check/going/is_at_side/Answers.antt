use Rattle.std.proofs.Common.{subst}
use Rattle.reo_net_base.specs.Net.{Net, net_of}
use Rattle.reo_net_base.specs.Wired.{IsEnd}
use Rattle.reo_joint_values.specs.Values.{no_joint}
use Rattle.reo_refute.proofs.check.going.is_at_side.Goals as goal

pub side_of-requires-else-side_of-side : goal.side_of-requires-else-side_of-side
side_of-requires-else-side_of-side g c =
    let net : Net = net_of g.P.Primitive.behaviour c.args.circuit.now in
    subst (λ x. IsEnd net.primitives x.taker) (c.joint-ends.ensures no_joint) (c.known.ensures.wired.takers c.args.joint no_joint c.requires)
