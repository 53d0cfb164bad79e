use Rattle.reo_values.proofs.Distinct.{Apart}
use Rattle.reo_values.proofs.valid.are_distinct.Given as goal

abbrev pub invariant-loop-place : goal.invariant-loop-place
invariant-loop-place l = Apart l.names l.place
