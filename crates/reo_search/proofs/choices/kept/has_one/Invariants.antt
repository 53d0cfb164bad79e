use Rattle.reo_search.proofs.choices.Keeping.{OneBelow}
use Rattle.reo_search.proofs.choices.kept.has_one.Given as goal

abbrev pub invariant-loop-code : goal.invariant-loop-code
invariant-loop-code l = OneBelow l.alive l.joint l.code l.some
