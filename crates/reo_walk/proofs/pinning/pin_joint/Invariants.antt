use Rattle.reo_walk.specs.Pins.{IsPinnedBelow}
use Rattle.reo_walk.proofs.pinning.pin_joint.Given as goal

abbrev pub invariant-loop-code : goal.invariant-loop-code
invariant-loop-code l = IsPinnedBelow l.joint l.chosen l.code l.initial.alive l.alive l.loss
