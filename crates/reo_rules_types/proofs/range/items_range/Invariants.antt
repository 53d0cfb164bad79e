-- The items so far keep their bounds.
use Rattle.std.proofs.Common.{◌≡◌, [], take}
use Rattle.std.specs.List.{flat_map}
use Rattle.reo_trees.specs.declared.items.Item.{Item}
use Rattle.reo_rules.specs.Ranges.{range_in_item}
use Rattle.reo_rules_types.specs.Cells.{Keeps}
use Rattle.reo_rules_types.specs.Scoped.{typed}
use Rattle.reo_rules_types.proofs.range.items_range.Given as goal

abbrev pub invariant-loop-item : goal.invariant-loop-item
invariant-loop-item l =
    Keeps l.initial.types l.types
    × (flat_map (λ (i : Item). range_in_item (typed l.initial.types l.declared) (typed l.initial.types l.scope) i.line i.form) (take l.item-index l.items) ≡ [])
