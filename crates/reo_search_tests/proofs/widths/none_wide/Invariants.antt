use Rattle.std.proofs.Common.{◌≡◌, ℕ, ◌<◌, false}
use Rattle.reo_reach.specs.Supplied.{is_wide}
use Rattle.reo_search_tests.proofs.widths.none_wide.Given as goal

abbrev pub invariant-loop-joint : goal.invariant-loop-joint
invariant-loop-joint l = (j : ℕ) → j < l.joint → is_wide l.supply j ≡ false
