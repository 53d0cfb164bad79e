use Rattle.std.proofs.Common.{◌≤◌, length}
use Rattle.reo_cases.proofs.lines.last_of.Given as goal

abbrev pub invariant-loop-at : goal.invariant-loop-at
invariant-loop-at l = l.begin ≤ length l.text
