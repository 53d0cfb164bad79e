-- The first break of one is the first of all.
use Rattle.reo_trees.specs.declared.items.Item.{Item}
use Rattle.reo_rules.specs.Dangling.{dangling_in_item}
use Rattle.reo_rules_names.proofs.AfterLemmas.{judged_err, flat_first, flat_more, flat_all}
use Rattle.reo_rules_names.proofs.dangling.items_dangling.Goals as goal

pub returns-in_err-item_dangling : goal.returns-in_err-item_dangling
returns-in_err-item_dangling c touches are =
    let fault = c.in_err-item_dangling.field-0.0 in
    judged_err c.from_residual.result fault _ c.from_residual.ensures
    (flat_first (λ (i : Item). dangling_in_item touches i.line i.form) c.args.items.now c.loop-item.item-index c.item-item.result fault c.loop-item-test.true c.item-item.is (c.loop-item.invariant touches are) (c.in_err-item_dangling.ensures touches are))

pub loop-item-preserved : goal.loop-item-preserved
loop-item-preserved c touches are =
    flat_more (λ (i : Item). dangling_in_item touches i.line i.form) c.args.items.now c.loop-item.item-index c.item-item.result c.loop-item-test.true c.item-item.is (c.loop-item.invariant touches are) (c.in_ok-item_dangling.ensures touches are)

pub returns : goal.returns
returns c touches are = flat_all (λ (i : Item). dangling_in_item touches i.line i.form) c.args.items.now c.loop-item.item-index c.loop-item-test.false (c.loop-item.invariant touches are)
