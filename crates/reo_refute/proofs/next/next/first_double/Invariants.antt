use Rattle.std.proofs.Common.{◌<◌, ◌≢◌, ℕ, []}
use Rattle.reo_refute_base.specs.Live.{live_at}
use Rattle.reo_refute_live.specs.support.Families.{family_of}
use Rattle.reo_refute.specs.next.Next.{HasOne}
use Rattle.reo_refute.proofs.next.next.first_double.Given as goal

-- At none of the joints so far two values are live.
abbrev pub invariant-loop-joint : goal.invariant-loop-joint
invariant-loop-joint l = (j : ℕ) → j < l.joint → live_at l.lists (family_of l.live.table) j ≢ [] → HasOne l.lists (family_of l.live.table) j
