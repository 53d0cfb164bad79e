-- The joints so far.
use Rattle.std.proofs.Common.{◌≡◌, ◌++◌, take}
use Rattle.reo_flat.specs.Joints.{end_range, pairs}
use Rattle.reo_flatten.proofs.joints.out_of_replicator.Given as goal

abbrev pub invariant-loop-end : goal.invariant-loop-end
invariant-loop-end l = l.joints ≡ l.initial.joints ++ pairs (end_range l.replicator 1 l.end) (take l.end l.outs)
