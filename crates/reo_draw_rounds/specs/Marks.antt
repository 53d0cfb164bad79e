-- The marks of joints.
use Rattle.std.specs.Prelude.{ℕ, List, map}
use Rattle.reo_net_base.specs.declared.joint.Joint.{Joint}
use Rattle.reo_net_base.specs.Net.{Net, mark_at}
use Rattle.reo_drawing.specs.declared.marks.JointMarks.{JointMarks}

-- The marks of a joint, by the rows of all sides.
abbrev pub joint_marks : Net → List ℕ → Joint → JointMarks
joint_marks net rows joint = record { giver = mark_at net rows joint.giver; taker = mark_at net rows joint.taker }

-- Those of all joints.
abbrev pub marks_of : Net → List ℕ → List JointMarks
marks_of net rows = map (joint_marks net rows) net.joints
