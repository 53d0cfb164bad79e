-- The names of the parameters so far.
use Rattle.std.proofs.Common.{take}
use Rattle.reo_rules.specs.Scopes.{parameter_names}
use Rattle.reo_rules_names.specs.SameNames.{SameNames}
use Rattle.reo_rules_names.proofs.unknown.parameter_names.Given as goal

abbrev pub invariant-loop-parameter : goal.invariant-loop-parameter
invariant-loop-parameter l = SameNames l.names (parameter_names (take l.parameter-index l.parameters))
