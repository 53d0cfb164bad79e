use Rattle.reo_round.specs.Filling.{AreBlank}
use Rattle.reo_round.proofs.made_round.blank.Given as goal

-- So many places have none.
abbrev pub invariant-loop : goal.invariant-loop
invariant-loop l = AreBlank l.counter l.items
