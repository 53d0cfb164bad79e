use Rattle.std.proofs.Common.{◌≤◌, length}
use Rattle.reo_cases.proofs.lines.shared_of.Given as goal

abbrev pub invariant-loop-at : goal.invariant-loop-at
invariant-loop-at l = l.shared ≤ length l.text
