use Rattle.std.proofs.Common.{◌≤◌, ◌-◌}
use Rattle.reo_net_base.specs.Net.{net_of}
use Rattle.reo_checker.specs.Chunks.{MatchWithin}
use Rattle.reo_checker.proofs.joints.joint_fault.Given as goal

abbrev pub invariant-loop-from : goal.invariant-loop-from
invariant-loop-from g l = (l.from ≤ l.joints) × MatchWithin (net_of g.P.Primitive.behaviour l.circuit) l.rows 0 l.from

abbrev pub decreases-loop-from : goal.decreases-loop-from
decreases-loop-from g l = l.joints - l.from
