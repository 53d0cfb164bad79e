use Rattle.std.proofs.Common.{length, ◌≤◌, ◌-◌}
use Rattle.reo_lanes.specs.Joints.{MatchBetween}
use Rattle.reo_lanes.proofs.joints.joints_match.Given as goal

abbrev pub invariant-loop-at : goal.invariant-loop-at
invariant-loop-at l = (l.at ≤ length l.left) × MatchBetween l.left l.right 0 l.at

abbrev pub decreases-loop-at : goal.decreases-loop-at
decreases-loop-at l = length l.left - l.at
