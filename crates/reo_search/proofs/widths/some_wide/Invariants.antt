use Rattle.std.proofs.Common.{◌≡◌, ◌<◌, ℕ, true, get_or}
use Rattle.reo_reach.specs.Supplied.{is_wide}
use Rattle.reo_search.proofs.widths.some_wide.Given as goal

abbrev pub invariant-loop-joint : goal.invariant-loop-joint
invariant-loop-joint l = (m : ℕ) → m < l.joint-index → is_wide l.supply (get_or l.joints m 0) ≡ true → ⊥
