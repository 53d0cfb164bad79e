use Rattle.std.proofs.Common.{◌∙◌, ◌++◌, ap, get_or}
use Rattle.reo_net_base.specs.declared.joint.Joint.{Joint}
use Rattle.reo_drawing.specs.Joints.{joint_line}
use Rattle.reo_drawing.specs.Pictures.{joint_text}
use Rattle.reo_drawing.specs.Strands.{strand_of}
use Rattle.reo_drawing.proofs.NumberedLemmas.{numbered_more, read}
use Rattle.reo_drawing.proofs.picture.append_joints.Goals as goal

none : Joint
none = record { giver = record { primitive = 0; end = 0 }; taker = record { primitive = 0; end = 0 } }

pub loop-number-preserved : goal.loop-number-preserved
unfolding none
loop-number-preserved c =
    let joint : Joint = get_or c.args.joints.now c.loop-number.number none in
    numbered_more (joint_text c.args.kinds.now c.args.homes.now c.args.marks.now c.args.items.now) c.loop-number.number c.args.joints.now joint c.args.text.now c.loop-number.text c.append_joint.new.text
    c.loop-number-test.true (read c.args.joints.now c.loop-number.number none c.loop-number-test.true) c.loop-number.invariant
    (c.in_ok-append_joint.ensures
    ∙ (λ i. c.loop-number.text ++ joint_line c.loop-number.number (c.home_at.ensures i) joint ((c.strand_of.ensures ∙ ap strand_of c.kind_at.ensures) i) ((c.strand_of-in-loop-number.ensures ∙ ap strand_of c.kind_at-in-loop-number.ensures) i)
    (c.marks_at.ensures i) (c.item_at.ensures i)))
