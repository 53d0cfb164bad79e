-- The first break of one is the first of all.
use Rattle.reo_trees.specs.declared.items.Item.{Item}
use Rattle.reo_rules.specs.Direction.{direction_in_item}
use Rattle.reo_rules_names.proofs.AfterLemmas.{judged_err, flat_first, flat_more, flat_all}
use Rattle.reo_rules_names.proofs.direction.items_direction.Goals as goal

pub returns-in_err-item_direction : goal.returns-in_err-item_direction
returns-in_err-item_direction c known ps are closed =
    let fault = c.in_err-item_direction.field-0.0 in
    judged_err c.from_residual.result fault _ c.from_residual.ensures
    (flat_first (λ (i : Item). direction_in_item known ps i.line i.form) c.args.items.now c.loop-item.item-index c.item-item.result fault c.loop-item-test.true c.item-item.is (c.loop-item.invariant known ps are closed) (c.in_err-item_direction.ensures known ps are closed))

pub loop-item-preserved : goal.loop-item-preserved
loop-item-preserved c known ps are closed =
    flat_more (λ (i : Item). direction_in_item known ps i.line i.form) c.args.items.now c.loop-item.item-index c.item-item.result c.loop-item-test.true c.item-item.is (c.loop-item.invariant known ps are closed) (c.in_ok-item_direction.ensures known ps are closed)

pub returns : goal.returns
returns c known ps are closed = flat_all (λ (i : Item). direction_in_item known ps i.line i.form) c.args.items.now c.loop-item.item-index c.loop-item-test.false (c.loop-item.invariant known ps are closed)
