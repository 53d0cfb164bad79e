use Rattle.std.proofs.Common.{◌≡◌, ◌++◌, take}
use Rattle.reo_drawing.specs.Pictures.{joint_lines}
use Rattle.reo_drawing.proofs.picture.append_joints.Given as goal

abbrev pub invariant-loop-number : goal.invariant-loop-number
invariant-loop-number l = l.text ≡ l.initial.text ++ joint_lines l.kinds l.homes l.marks l.items (take l.number l.joints)
