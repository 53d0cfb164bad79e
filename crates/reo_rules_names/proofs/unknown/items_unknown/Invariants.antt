-- The parameters and the nodes so far were noted, and no item so far has a break.
use Rattle.std.proofs.Common.{◌≡◌, ◌++◌, [], ℕ, List, take}
use Rattle.reo_trees.specs.declared.items.Item.{Item}
use Rattle.reo_trees.specs.declared.programs.Parameter.{Parameter}
use Rattle.reo_rules.specs.Lists.{each_after}
use Rattle.reo_rules.specs.Types.{Typed}
use Rattle.reo_rules.specs.Scopes.{parameter_names, node_names}
use Rattle.reo_rules.specs.Unknown.{unknown_in_item}
use Rattle.reo_rules_names.specs.SameNames.{SameNames}
use Rattle.reo_rules_names.specs.Symbols.{AreTypes}
use Rattle.reo_rules_names.proofs.unknown.items_unknown.Given as goal

abbrev pub invariant-loop-item : goal.invariant-loop-item
invariant-loop-item l =
    (known : List Typed) (cs : List (List ℕ)) (ps : List Parameter) → AreTypes known l.types → SameNames l.connectors cs → SameNames l.fn.nodes (parameter_names ps)
    → SameNames l.nodes (parameter_names ps ++ node_names (take l.item-index l.items))
    × (each_after (λ before (i : Item). unknown_in_item known cs (parameter_names ps ++ node_names before) i.line i.form) [] (take l.item-index l.items) ≡ [])
