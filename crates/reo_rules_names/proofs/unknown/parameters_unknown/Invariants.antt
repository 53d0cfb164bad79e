-- No type of a parameter so far names what is unknown.
use Rattle.std.proofs.Common.{◌≡◌, [], take}
use Rattle.std.specs.List.{flat_map}
use Rattle.reo_trees.specs.declared.programs.Parameter.{Parameter}
use Rattle.reo_rules.specs.Unknown.{unknown_in_type}
use Rattle.reo_rules_names.proofs.unknown.parameters_unknown.Given as goal

abbrev pub invariant-loop-parameter : goal.invariant-loop-parameter
invariant-loop-parameter l = flat_map (λ (p : Parameter). unknown_in_type l.types p.term) (take l.parameter-index l.parameters) ≡ []
