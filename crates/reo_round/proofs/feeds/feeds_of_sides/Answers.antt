use Rattle.std.proofs.Common.{◌∙◌, ap, sym, arith}
use Rattle.reo_net_base.specs.declared.joint.Joint.{Joint}
use Rattle.reo_net_base.specs.Net.{Net, net_of, side_at}
use Rattle.reo_joint_values.specs.Standing.{no_joint}
use Rattle.reo_round.proofs.FeedLemmas.{codes_more}
use Rattle.reo_round.proofs.feeds.feeds_of_sides.Goals as goal

pub loop-joint-preserved : goal.loop-joint-preserved
loop-joint-preserved g c =
    let net : Net = net_of g.P.Primitive.behaviour c.args.circuit.now in
    codes_more net c.loop-joint.joint (omega (arith, c.joint_count-joint-end.ensures, c.known.ensures.few_joints)) c.side_of-side.result
    (c.side_of-side.ensures.number ∙ ap (λ (j : Joint). side_at net j.taker) (sym (c.joint.ensures no_joint))) c.loop-joint.codes c.note.new.codes c.note.ensures c.loop-joint.invariant
