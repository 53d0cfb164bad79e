use Rattle.std.proofs.Common.{◌≤◌, length}
use Rattle.reo_refute_live.specs.support.Families.{family_of}
use Rattle.reo_refute_live.specs.Trail.{AreKept, HasLost}
use Rattle.reo_refute_live.proofs.trail.come_back.Given as goal

-- Some have come back, and not too many.
abbrev pub invariant-loop-gone : goal.invariant-loop-gone
invariant-loop-gone l = record {
  kept : AreKept l.lists l.table l.gone;
  lost : HasLost (family_of l.table) l.gone (family_of l.initial.table) l.initial.gone;
  within : l.count ≤ length l.gone;
}

abbrev pub decreases-loop-gone : goal.decreases-loop-gone
decreases-loop-gone l = length l.gone
