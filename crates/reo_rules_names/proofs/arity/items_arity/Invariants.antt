-- No item so far has a break.
use Rattle.std.proofs.Common.{◌≡◌, List, [], take}
use Rattle.std.specs.List.{flat_map}
use Rattle.reo_trees.specs.declared.items.Item.{Item}
use Rattle.reo_trees.specs.declared.programs.Connector.{Connector}
use Rattle.reo_rules.specs.Arity.{arity_in_item}
use Rattle.reo_rules_names.specs.Connectors.{AreConnectors}
use Rattle.reo_rules_names.proofs.arity.items_arity.Given as goal

abbrev pub invariant-loop-item : goal.invariant-loop-item
invariant-loop-item l =
    (known : List Connector) → AreConnectors known l.connectors → flat_map (λ (i : Item). arity_in_item known i.line i.form) (take l.item-index l.items) ≡ []
