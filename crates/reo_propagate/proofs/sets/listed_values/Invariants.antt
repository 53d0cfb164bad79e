use Rattle.reo_propagate.specs.Beginning.{AreFlags}
use Rattle.reo_propagate.specs.ListedSets.{listed}
use Rattle.reo_propagate.proofs.sets.listed_values.Given as goal

abbrev pub invariant-loop-joint : goal.invariant-loop-joint
invariant-loop-joint l = AreFlags l.items l.joint (listed l.sets.values) l.alive
