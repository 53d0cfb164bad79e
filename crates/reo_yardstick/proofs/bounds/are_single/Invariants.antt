use Rattle.reo_yardstick.specs.Bounds.{AreSingle}
use Rattle.reo_yardstick.proofs.bounds.are_single.Given as goal

abbrev pub invariant-loop-index : goal.invariant-loop-index
invariant-loop-index l = AreSingle l.sets.values l.index l.joints
