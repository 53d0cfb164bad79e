-- The declarations so far.
use Rattle.std.proofs.Common.{take}
use Rattle.reo_unfold.specs.Ground.{IsGround}
use Rattle.reo_unfold.proofs.ground.ground_of.Given as goal

abbrev pub invariant-loop-place : goal.invariant-loop-place
invariant-loop-place l = IsGround (take l.place l.declarations) l.ground
