-- No item so far has a break.
use Rattle.std.proofs.Common.{◌≡◌, List, [], take}
use Rattle.std.specs.List.{flat_map}
use Rattle.reo_trees.specs.declared.items.Item.{Item}
use Rattle.reo_trees.specs.declared.programs.Parameter.{Parameter}
use Rattle.reo_trees.specs.declared.programs.Connector.{Connector}
use Rattle.reo_rules_names.specs.Connectors.{AreConnectors}
use Rattle.reo_rules_names.specs.Closed.{AreClosed}
use Rattle.reo_rules.specs.Direction.{direction_in_item}
use Rattle.reo_rules_names.proofs.direction.items_direction.Given as goal

abbrev pub invariant-loop-item : goal.invariant-loop-item
invariant-loop-item l =
    (known : List Connector) (ps : List Parameter) → AreConnectors known l.connectors → AreClosed ps l.closed → flat_map (λ (i : Item). direction_in_item known ps i.line i.form) (take l.item-index l.items) ≡ []
