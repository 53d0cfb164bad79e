use Rattle.reo_search.specs.choices.Remaining.{AreKept}
use Rattle.reo_search.proofs.choices.kept.kept_of.Given as goal

abbrev pub invariant-loop-index : goal.invariant-loop-index
invariant-loop-index l = AreKept l.alive l.joints l.left l.index l.all
