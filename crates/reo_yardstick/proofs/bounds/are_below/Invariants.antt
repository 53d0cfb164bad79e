use Rattle.std.proofs.Common.{take, ◌+◌}
use Rattle.reo_yardstick.specs.Bounds.{AreBelow}
use Rattle.reo_yardstick.proofs.bounds.are_below.Given as goal

abbrev pub invariant-loop-value : goal.invariant-loop-value
invariant-loop-value l = AreBelow (take l.value-index l.values) (l.count + 4)
