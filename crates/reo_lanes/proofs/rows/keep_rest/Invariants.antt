use Rattle.std.proofs.Common.{◌≤◌}
use Rattle.reo_lanes.specs.Rows.{KeptBetween}
use Rattle.reo_lanes.proofs.rows.keep_rest.Given as goal

abbrev pub invariant-loop-row : goal.invariant-loop-row
invariant-loop-row l = (l.from ≤ l.row) × KeptBetween l.column l.allowed l.from l.row l.initial.live l.live
