use Rattle.std.proofs.Common.{◌≡◌, drop}
use Rattle.reo_grammar.specs.Tokens.{number_from}
use Rattle.reo_command.proofs.number.value_of.Given as goal

abbrev pub invariant-loop-digit : goal.invariant-loop-digit
invariant-loop-digit l = number_from l.value (drop l.digit-index l.digits) ≡ number_from 0 l.digits
