use Rattle.std.proofs.Common.{true}
use Rattle.reo_propagate.specs.Beginning.{AreFlags}
use Rattle.reo_propagate.proofs.state.all_values.Given as goal

abbrev pub invariant-loop-joint : goal.invariant-loop-joint
invariant-loop-joint l = AreFlags l.items l.joint (λ j v. true) l.alive
