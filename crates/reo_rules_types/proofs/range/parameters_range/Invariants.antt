-- The parameters so far keep their bounds.
use Rattle.std.proofs.Common.{◌≡◌, [], take}
use Rattle.std.specs.List.{flat_map}
use Rattle.reo_trees.specs.declared.programs.Parameter.{Parameter}
use Rattle.reo_rules.specs.Ranges.{range_in_type}
use Rattle.reo_rules_types.specs.Cells.{Keeps}
use Rattle.reo_rules_types.specs.Scoped.{typed}
use Rattle.reo_rules_types.proofs.range.parameters_range.Given as goal

abbrev pub invariant-loop-parameter : goal.invariant-loop-parameter
invariant-loop-parameter l =
    Keeps l.initial.types l.types × (flat_map (λ (p : Parameter). range_in_type (typed l.initial.types l.declared) p.term) (take l.parameter-index l.parameters) ≡ [])
