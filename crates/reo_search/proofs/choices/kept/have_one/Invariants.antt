use Rattle.std.proofs.Common.{◌<◌, ℕ, get_or}
use Rattle.reo_search.specs.choices.Remaining.{HasOneAt}
use Rattle.reo_search.proofs.choices.kept.have_one.Given as goal

abbrev pub invariant-loop-joint : goal.invariant-loop-joint
invariant-loop-joint l = (m : ℕ) → m < l.joint-index → HasOneAt l.alive (get_or l.joints m 0)
