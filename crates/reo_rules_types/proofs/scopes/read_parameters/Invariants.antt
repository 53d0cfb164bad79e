-- The parameters so far are in scope, with their types.
use Rattle.std.proofs.Common.{◌≡◌, map, take}
use Rattle.reo_trees.specs.declared.programs.Parameter.{Parameter}
use Rattle.reo_rules.specs.Types.{resolved}
use Rattle.reo_rules.specs.Scopes.{parameter_type}
use Rattle.reo_rules_types.specs.Cells.{Keeps}
use Rattle.reo_rules_types.specs.Scoped.{typed, AreKnown}
use Rattle.reo_rules_types.specs.Signed.{AreOf}
use Rattle.reo_rules_types.proofs.scopes.read_parameters.Given as goal

abbrev pub invariant-loop-parameter : goal.invariant-loop-parameter
invariant-loop-parameter l =
    Keeps l.initial.types l.types × AreKnown l.types l.scope
    × (typed l.types l.scope ≡ map (parameter_type (typed l.initial.types l.declared)) (take l.parameter-index l.parameters))
    × AreOf l.types l.numbers (map (λ (p : Parameter). resolved (typed l.initial.types l.declared) p.term.shape) (take l.parameter-index l.parameters))
