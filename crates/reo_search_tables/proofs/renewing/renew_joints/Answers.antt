use Rattle.std.proofs.Common.{arith}
use Rattle.reo_net_base.specs.Net.{Net, net_of}
use Rattle.reo_search_tables.proofs.Renewed.{on_ok}
use Rattle.reo_search_tables.proofs.RenewedSides.{joint_in, joints_right}
use Rattle.reo_search_tables.proofs.renewing.renew_joints.Goals as goal

pub renew_values-requires-clause-joints : goal.renew_values-requires-clause-joints
renew_values-requires-clause-joints g c j h =
    let lt = joint_in (net_of g.P.Primitive.behaviour c.args.circuit.now) c.args.joints.now c.requires.joints j h in
    omega (arith, lt, c.reach_at.ensures.places.one_list)

pub renew_values-requires-2-clause-joints : goal.renew_values-requires-2-clause-joints
renew_values-requires-2-clause-joints g c j h =
    let lt = joint_in (net_of g.P.Primitive.behaviour c.args.circuit.now) c.args.joints.now c.requires.joints j h in
    omega (arith, lt, c.reach_at.ensures.places.one_list)

pub returns-clause-right : goal.returns-clause-right
returns-clause-right g c =
    let net : Net = net_of g.P.Primitive.behaviour c.args.circuit.now in
    on_ok c.renew_values-2.result c.renew_values-2.ensures.right (λ seen. joints_right net c.args.joints.now _ c.in_ok-reach_at.ensures.reached c.in_ok-renew_values.ensures.right seen)
