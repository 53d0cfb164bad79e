use Rattle.std.proofs.Common.{take}
use Rattle.std.specs.List.{All}
use Rattle.reo_values.specs.decimals.Digits.{IsDigit}
use Rattle.reo_values.proofs.decimals.number.digits_length.Given as goal

abbrev pub invariant-loop-at : goal.invariant-loop-at
invariant-loop-at l = All IsDigit (take l.at l.text)
