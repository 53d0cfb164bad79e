use Rattle.reo_search.specs.choices.Remaining.{AreCodes}
use Rattle.reo_search.proofs.choices.weighing.codes_of.Given as goal

abbrev pub invariant-loop-index : goal.invariant-loop-index
invariant-loop-index l = AreCodes l.alive l.joints l.index l.left
