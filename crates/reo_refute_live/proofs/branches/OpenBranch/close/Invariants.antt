use Rattle.std.proofs.Common.{◌≡◌, length}
use Rattle.std.specs.List.{All}
use Rattle.reo_refute_live.specs.support.Families.{family_of}
use Rattle.reo_refute_live.specs.Trail.{AreKept}
use Rattle.reo_refute_live.specs.OpenBranch.{still_open, IsSplit, AreNested}
use Rattle.reo_refute_live.proofs.branches.OpenBranch.close.Given as goal

-- Nothing is to come of the splits that went.
abbrev pub invariant-loop-split : goal.invariant-loop-split
invariant-loop-split l = record {
  kept : AreKept l.lists l.self.table l.self.gone;
  splits : All (IsSplit l.lists (family_of l.self.table) l.self.gone) l.self.splits;
  nested : AreNested l.self.splits;
  open_is : still_open l.self ≡ still_open l.initial.self;
}

abbrev pub decreases-loop-split : goal.decreases-loop-split
decreases-loop-split l = length l.self.splits
