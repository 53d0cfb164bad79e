use Rattle.std.proofs.Common.{◌≡◌, take}
use Rattle.reo_open.proofs.circuit.copied.Given as goal

abbrev pub invariant-loop-joint : goal.invariant-loop-joint
invariant-loop-joint l = l.made ≡ take l.joint-index l.joints
