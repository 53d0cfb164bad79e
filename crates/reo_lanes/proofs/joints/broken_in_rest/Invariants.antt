use Rattle.std.proofs.Common.{◌≤◌}
use Rattle.reo_lanes.specs.Joints.{MatchBetween}
use Rattle.reo_lanes.proofs.joints.broken_in_rest.Given as goal

abbrev pub invariant-loop-place : goal.invariant-loop-place
invariant-loop-place l = (l.from ≤ l.place) × MatchBetween l.left l.right l.from l.place
