-- The ends that the connector's own parameters close.
use Rattle.std.proofs.Common.{ap, ◌∙◌}
use Rattle.std.specs.List.{flat_map}
use Rattle.reo_trees.specs.declared.items.Item.{Item}
use Rattle.reo_rules.specs.Direction.{direction_in_item}
use Rattle.reo_rules_names.proofs.AfterLemmas.{judged_same}
use Rattle.reo_rules_names.proofs.direction.connector_direction.Goals as goal

pub returns : goal.returns
returns c known are =
    let ps = c.as_slice.result.now in
    let all =
    ap (flat_map (λ (i : Item). direction_in_item known ps i.line i.form)) c.as_slice-2.ensures
    ∙ ap (λ qs. flat_map (λ (i : Item). direction_in_item known qs i.line i.form) c.args.connector.now.items) c.as_slice.ensures in
    judged_same _ _ c.items_direction.result all (c.items_direction.ensures known ps are c.in_ok-closed.ensures)
