use Rattle.std.proofs.Common.{◌≤◌, length}
use Rattle.reo_expand.specs.programs.Behind.{IsBehind}
use Rattle.reo_expand.proofs.programs.expanding.expand.Given as goal

abbrev pub invariant-loop-place : goal.invariant-loop-place
invariant-loop-place l = record {
  within : l.place ≤ length l.declarations;
  behind : IsBehind l.declarations l.place l.behind;
}

abbrev pub decreases-loop-place : goal.decreases-loop-place
decreases-loop-place l = l.place
