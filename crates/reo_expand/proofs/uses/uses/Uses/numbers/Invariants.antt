use Rattle.std.proofs.Common.{◌≡◌}
use Rattle.reo_expand.specs.uses.Numbers.{numbers_below}
use Rattle.reo_expand.proofs.uses.uses.Uses.numbers.Given as goal

abbrev pub invariant-loop-number : goal.invariant-loop-number
invariant-loop-number l = l.numbers ≡ numbers_below l.number l.self.names l.name
