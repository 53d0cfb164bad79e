-- The ends of the items so far.
use Rattle.std.proofs.Common.{List, take}
use Rattle.std.specs.List.{flat_map}
use Rattle.reo_trees.specs.declared.items.Item.{Item}
use Rattle.reo_trees.specs.declared.programs.Connector.{Connector}
use Rattle.reo_rules.specs.Touches.{touches_in}
use Rattle.reo_rules_names.specs.Connectors.{AreConnectors}
use Rattle.reo_rules_names.specs.EndsAtNames.{AreEnds}
use Rattle.reo_rules_names.proofs.dangling.item_ends.Given as goal

abbrev pub invariant-loop-item : goal.invariant-loop-item
invariant-loop-item l =
    (known : List Connector) → AreConnectors known l.connectors → AreEnds (flat_map (λ (i : Item). touches_in known i.form) (take l.item-index l.items)) l.ends
