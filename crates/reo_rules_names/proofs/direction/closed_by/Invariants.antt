-- The ends that are closed by the parameters so far.
use Rattle.std.proofs.Common.{take}
use Rattle.reo_rules_names.specs.Closed.{AreClosed}
use Rattle.reo_rules_names.proofs.direction.closed_by.Given as goal

abbrev pub invariant-loop-parameter : goal.invariant-loop-parameter
invariant-loop-parameter l = AreClosed (take l.parameter-index l.parameters) l.closed
