use Rattle.reo_part_plans.specs.Remembered.{AreNew}
use Rattle.reo_part_plans.proofs.plans.Remembered.new.Given as goal

-- So many so far.
abbrev pub invariant-loop : goal.invariant-loop
invariant-loop l = AreNew l.counter l.made
