use Rattle.reo_net_base.specs.Net.{Net, net_of}
use Rattle.reo_side_tables.specs.Marks.{mark_at_joint}
use Rattle.reo_joint_values.specs.Values.{Family}
use Rattle.reo_rows.specs.Sets.{family_of}
use Rattle.reo_rows.proofs.Left.{left_test}
use Rattle.reo_rows.proofs.Ending.{stands_there}
use Rattle.reo_rows.proofs.standing.stands_at.Goals as goal

pub returns : goal.returns
returns g c =
    let net : Net = net_of g.P.Primitive.behaviour c.args.basis.now.circuit.now in
    let family : Family = family_of c.args.alive.now in
    let test = left_test net family c.args.side c.joint_there-joint.result c.marks_left-marks.result c.has.result c.mark_at_joint.result (mark_at_joint net c.args.side c.args.row c.joint_there-joint.result) c.has.ensures c.mark_at_joint.ensures c.marks_left-marks.ensures in
    let both = stands_there net c.known.ensures.wired family c.args.side c.args.row c.args.end c.joint_there-joint.result c.joint_there-joint.ensures in
    (λ h. both.0 (test.0 h), λ stands. test.1 (both.1 stands))
