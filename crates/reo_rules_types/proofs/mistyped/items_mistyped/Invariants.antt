-- All items so far fit.
use Rattle.std.proofs.Common.{◌≡◌, List, [], take}
use Rattle.std.specs.List.{flat_map}
use Rattle.reo_trees.specs.declared.items.Item.{Item}
use Rattle.reo_trees.specs.declared.programs.Declaration.{Declaration}
use Rattle.reo_rules.specs.declared.fault.FlatFault.TheVariants as faults
use Rattle.reo_rules.specs.Lists.{where_true}
use Rattle.reo_rules.specs.Types.{types_of}
use Rattle.reo_rules.specs.Scopes.{connectors_of}
use Rattle.reo_rules.specs.Mistyped.{is_mistyped}
use Rattle.reo_rules_types.specs.Cells.{Keeps}
use Rattle.reo_rules_types.specs.Scoped.{typed}
use Rattle.reo_rules_types.specs.Stands.{Stands}
use Rattle.reo_rules_types.proofs.mistyped.items_mistyped.Given as goal

abbrev pub invariant-loop-item : goal.invariant-loop-item
invariant-loop-item l =
    Keeps l.initial.types l.types
    × ((before : List Declaration) → Stands before l.initial.types l.known
    → flat_map (λ (i : Item). where_true (is_mistyped (types_of before) (connectors_of before) (typed l.initial.types l.scope) i.form) (faults.Mistyped i.line)) (take l.item-index l.items) ≡ [])
