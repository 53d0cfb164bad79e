-- The ways of the parameters so far.
use Rattle.std.proofs.Common.{◌≡◌, map, take}
use Rattle.reo_trees.specs.declared.programs.Parameter.{Parameter}
use Rattle.reo_rules_names.proofs.connectors.ways_of.Given as goal

abbrev pub invariant-loop-parameter : goal.invariant-loop-parameter
invariant-loop-parameter l = l.ways ≡ map (λ (p : Parameter). p.inward) (take l.parameter-index l.parameters)
