use Rattle.std.proofs.Common.{◌≡◌, take}
use Rattle.reo_refute_live.specs.support.Families.{family_of}
use Rattle.reo_refute_live.specs.Trail.{AreKept, HasLost}
use Rattle.reo_refute_live.proofs.HoldLemmas.{held}
use Rattle.reo_refute_live.proofs.trail.hold.Given as goal

-- Of the values so far one alone is left.
abbrev pub invariant-loop-index : goal.invariant-loop-index
invariant-loop-index l = record {
  kept : AreKept l.lists l.table l.gone;
  lost : HasLost (family_of l.initial.table) l.initial.gone (family_of l.table) l.gone;
  held_is : family_of l.table ≡ held (family_of l.initial.table) l.joint l.keep (take l.index l.values);
}
