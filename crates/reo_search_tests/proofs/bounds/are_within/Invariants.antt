use Rattle.std.proofs.Common.{ℕ, ◌<◌}
use Rattle.reo_search_tests.specs.Bounds.{IsWithin}
use Rattle.reo_search_tests.proofs.bounds.are_within.Given as goal

abbrev pub invariant-loop-joint : goal.invariant-loop-joint
invariant-loop-joint l = (j : ℕ) → j < l.joint → IsWithin l.items l.sets.values j
