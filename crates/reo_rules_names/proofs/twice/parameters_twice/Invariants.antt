-- The parameters so far were seen, and nothing stands twice in them.
use Rattle.std.proofs.Common.{◌≡◌, [], take}
use Rattle.reo_rules.specs.Lists.{each_after}
use Rattle.reo_rules.specs.Scopes.{parameter_names}
use Rattle.reo_rules.specs.Twice.{twice_in_parameter}
use Rattle.reo_rules_names.proofs.twice.parameters_twice.Given as goal

abbrev pub invariant-loop-parameter : goal.invariant-loop-parameter
invariant-loop-parameter l =
    (l.seen ≡ parameter_names (take l.parameter-index l.parameters)) × (each_after twice_in_parameter [] (take l.parameter-index l.parameters) ≡ [])
