use Rattle.std.proofs.Common.{◌≡◌, ◌<◌, ℕ, false, get_or}
use Rattle.reo_joint_values.specs.declared.value.JointValue.TheVariants.{Jam}
use Rattle.reo_refute_base.specs.Live.{values_of}
use Rattle.reo_refute_live.specs.support.Families.{family_of}
use Rattle.reo_refute.proofs.next.looking.first_live.Given as goal

-- None of the values so far is live.
abbrev pub invariant-loop-place : goal.invariant-loop-place
invariant-loop-place l = (k : ℕ) → k < l.place → family_of l.live.table l.joint (get_or (values_of l.lists l.joint) k Jam) ≡ false
