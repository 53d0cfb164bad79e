-- By all ends of the connector.
use Rattle.std.proofs.Common.{subst}
use Rattle.std.specs.List.{flat_map}
use Rattle.reo_trees.specs.declared.items.Item.{Item}
use Rattle.reo_rules.specs.Touches.{touches_in, touches_of}
use Rattle.reo_rules_names.specs.EndsAtNames.{AreEnds}
use Rattle.reo_rules_names.proofs.dangling.connector_dangling.Goals as goal

pub returns : goal.returns
returns c known are =
    c.ends_dangling.ensures (touches_of known c.args.connector.now)
    (subst (λ items. AreEnds (flat_map (λ (i : Item). touches_in known i.form) items) c.in_ok-ends.ends) c.as_slice.ensures (c.in_ok-ends.ensures known are))
