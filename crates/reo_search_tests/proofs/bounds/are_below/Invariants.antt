use Rattle.std.proofs.Common.{take}
use Rattle.reo_search_tests.specs.Bounds.{AreBelow}
use Rattle.reo_search_tests.proofs.bounds.are_below.Given as goal

abbrev pub invariant-loop-value : goal.invariant-loop-value
invariant-loop-value l = AreBelow (take l.value-index l.values) l.bound
