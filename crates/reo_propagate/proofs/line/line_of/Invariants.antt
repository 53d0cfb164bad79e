use Rattle.std.proofs.Common.{◌≡◌, take}
use Rattle.reo_propagate.proofs.line.line_of.Given as goal

abbrev pub invariant-loop-number : goal.invariant-loop-number
invariant-loop-number l = l.line ≡ take l.number-index l.numbers
