-- The nodes so far are in scope, with their types.
use Rattle.std.proofs.Common.{◌≡◌, ◌++◌, take}
use Rattle.std.specs.List.{flat_map}
use Rattle.reo_trees.specs.declared.items.Item.{Item}
use Rattle.reo_rules.specs.Scopes.{node_types_in}
use Rattle.reo_rules_types.specs.Cells.{Keeps}
use Rattle.reo_rules_types.specs.Scoped.{typed, AreKnown}
use Rattle.reo_rules_types.proofs.scopes.read_nodes.Given as goal

abbrev pub invariant-loop-item : goal.invariant-loop-item
invariant-loop-item l =
    Keeps l.initial.types l.types × AreKnown l.types l.scope
    × (typed l.types l.scope ≡ typed l.initial.types l.initial.scope ++ flat_map (λ (i : Item). node_types_in (typed l.initial.types l.declared) i.form) (take l.item-index l.items))
