-- The lists so far.
use Rattle.std.proofs.Common.{◌≡◌, [], replicate}
use Rattle.reo_values.proofs.lists.empty_lists.Given as goal

abbrev pub invariant-loop : goal.invariant-loop
invariant-loop t l = l.lists ≡ replicate l.counter []
