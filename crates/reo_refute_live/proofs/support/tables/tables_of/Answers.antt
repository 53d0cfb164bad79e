use Rattle.std.proofs.Common.{arith}
use Rattle.reo_net_base.specs.Net.{Net, net_of}
use Rattle.reo_refute_live.proofs.support.Adding.{so_far_giver, so_far_taker}
use Rattle.std.proofs.Common.{inl, inr, refl, ◌<◌, length}
use Rattle.reo_joint_values.proofs.Inside.{side_below}
use Rattle.reo_refute_live.proofs.support.tables.tables_of.Goals as goal

pub loop-joint-preserved : goal.loop-joint-preserved
loop-joint-preserved g c =
    let net : Net = net_of g.P.Primitive.behaviour c.args.circuit.now in
    let lt : c.loop-joint.joint < length net.joints = omega (arith, c.loop-joint-test.true, c.joint_count-joint-end.ensures) in
    so_far_taker net c.loop-joint.joint lt (side_below net c.known.ensures.wired c.loop-joint.joint _ lt (inr refl)) c.add_column.new.tables.items c.add_column-in-loop-joint.new.tables.items
    (so_far_giver net c.loop-joint.joint lt (side_below net c.known.ensures.wired c.loop-joint.joint _ lt (inl refl)) c.loop-joint.tables.items c.add_column.new.tables.items c.loop-joint.invariant c.in_ok-add_column.ensures)
    c.in_ok-add_column-2.ensures
