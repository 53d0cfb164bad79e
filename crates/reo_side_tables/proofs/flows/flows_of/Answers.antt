use Rattle.std.proofs.Common.{◌≡◌, ℕ, length, get_or, subst, arith}
use Rattle.reo_net_base.specs.Net.{Net, net_of}
use Rattle.reo_side_tables.proofs.Adding.{AreFlowsBelow, flows_more, flow_is}
use Rattle.reo_side_tables.proofs.Sides.{whole_row}
use Rattle.reo_side_tables.proofs.flows.flows_of.Goals as goal

pub loop-index-preserved : goal.loop-index-preserved
loop-index-preserved g c =
    let net : Net = net_of g.P.Primitive.behaviour c.args.circuit.now in
    flows_more net c.args.side c.loop-index.index c.args.joints.now c.loop-index.flows c.add_joint.new.flows
    (λ row lt. whole_row net c.known.ensures.wired c.args.side (get_or c.args.joints.now c.loop-index.index 0) row (c.requires.joints.sound c.loop-index.index (omega arith)) lt)
    c.loop-index.invariant c.in_ok-add_joint.ensures

pub returns-clause-flows : goal.returns-clause-flows
returns-clause-flows g c =
    let net : Net = net_of g.P.Primitive.behaviour c.args.circuit.now in
    let last : c.loop-index.index ≡ length c.args.joints.now = omega arith in
    λ row d lt. flow_is net c.known.ensures.wired c.args.side row c.args.joints.now c.loop-index.flows c.requires.joints
    (subst (λ (x : ℕ). AreFlowsBelow net c.args.side x c.args.joints.now c.loop-index.flows) last c.loop-index.invariant) d lt
