use Rattle.std.proofs.Common.{◌≡◌, map, take}
use Rattle.reo_net_base.specs.Net.{net_of}
use Rattle.reo_kinds.specs.Kinds.{behaviour_of}
use Rattle.reo_draw_rounds.specs.Marks.{joint_marks}
use Rattle.reo_draw_rounds.proofs.marks.marks_of.Given as goal

abbrev pub invariant-loop-joint : goal.invariant-loop-joint
invariant-loop-joint l = l.made ≡ map (joint_marks (net_of behaviour_of l.circuit) l.rows) (take l.joint-index l.circuit.joints)
