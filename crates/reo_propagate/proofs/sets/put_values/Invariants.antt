use Rattle.std.proofs.Common.{take}
use Rattle.reo_propagate.specs.ListedSets.{ArePut}
use Rattle.reo_propagate.proofs.sets.put_values.Given as goal

abbrev pub invariant-loop-value : goal.invariant-loop-value
invariant-loop-value l = ArePut l.joint (take l.value-index l.values) l.initial.alive l.alive
