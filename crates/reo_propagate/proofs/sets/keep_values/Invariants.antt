use Rattle.reo_propagate.proofs.Listed.{IsKeeping}
use Rattle.reo_propagate.proofs.sets.keep_values.Given as goal

abbrev pub invariant-loop-index : goal.invariant-loop-index
invariant-loop-index l = IsKeeping l.alive l.joint l.index l.count l.initial.values l.values
