-- The names so far.
use Rattle.std.proofs.Common.{◌≡◌, take}
use Rattle.reo_rules.specs.Scopes.{parameter_names}
use Rattle.reo_unfold.proofs.local.parameter_names.Given as goal

abbrev pub invariant-loop-parameter : goal.invariant-loop-parameter
invariant-loop-parameter l = l.names ≡ parameter_names (take l.parameter-index l.parameters)
