use Rattle.reo_round.proofs.Filled.{IsClearedTo}
use Rattle.reo_round.proofs.made_round.cleared.Given as goal

-- The items at the joints so far are cleared.
abbrev pub invariant-loop-index : goal.invariant-loop-index
invariant-loop-index l = IsClearedTo l.flowing l.index l.initial.items l.items
