-- The joints so far.
use Rattle.std.proofs.Common.{◌≡◌, ◌++◌, take}
use Rattle.reo_flat.specs.Joints.{end_range, pairs}
use Rattle.reo_flatten.proofs.joints.into_merger.Given as goal

abbrev pub invariant-loop-end : goal.invariant-loop-end
invariant-loop-end l = l.joints ≡ l.initial.joints ++ pairs (take l.end l.ins) (end_range l.merger 0 l.end)
