use Rattle.std.proofs.Common.{ℕ, ◌<◌, ◌+◌, [], length, get_or}
use Rattle.reo_yardstick.specs.Bounds.{AreBelow}
use Rattle.reo_yardstick.proofs.bounds.are_within.Given as goal

abbrev pub invariant-loop-joint : goal.invariant-loop-joint
invariant-loop-joint l = (j : ℕ) → j < l.joint → AreBelow (get_or l.sets.values j []) (length (get_or l.items j []) + 4)
