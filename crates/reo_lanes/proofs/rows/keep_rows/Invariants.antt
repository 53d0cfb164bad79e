use Rattle.std.proofs.Common.{length, ◌≤◌, ◌-◌}
use Rattle.reo_lanes.specs.Rows.{KeptBetween}
use Rattle.reo_lanes.proofs.rows.keep_rows.Given as goal

abbrev pub invariant-loop-at : goal.invariant-loop-at
invariant-loop-at l = (l.at ≤ length l.column) × KeptBetween l.column l.allowed 0 l.at l.initial.live l.live

abbrev pub decreases-loop-at : goal.decreases-loop-at
decreases-loop-at l = length l.column - l.at
