-- The first break of an item is the first of all.
use Rattle.reo_trees.specs.declared.items.Item.{Item}
use Rattle.reo_rules.specs.Arity.{arity_in_item}
use Rattle.reo_rules_names.proofs.AfterLemmas.{judged_err, flat_first, flat_more, flat_all}
use Rattle.reo_rules_names.proofs.arity.items_arity.Goals as goal

pub returns-in_err-item_arity-clause-judged : goal.returns-in_err-item_arity-clause-judged
returns-in_err-item_arity-clause-judged c known are =
    judged_err c.from_residual.result c.in_err-item_arity.field-0.0 _ c.from_residual.ensures
    (flat_first (λ (i : Item). arity_in_item known i.line i.form) c.args.items.now c.loop-item.item-index c.item-item.result c.in_err-item_arity.field-0.0 c.loop-item-test.true c.item-item.is (c.loop-item.invariant known are) (c.in_err-item_arity.ensures.judged known are))

pub loop-item-preserved : goal.loop-item-preserved
loop-item-preserved c known are =
    flat_more (λ (i : Item). arity_in_item known i.line i.form) c.args.items.now c.loop-item.item-index c.item-item.result c.loop-item-test.true c.item-item.is (c.loop-item.invariant known are) (c.in_ok-item_arity.ensures.judged known are)

pub returns-clause-judged : goal.returns-clause-judged
returns-clause-judged c known are =
    flat_all (λ (i : Item). arity_in_item known i.line i.form) c.args.items.now c.loop-item.item-index c.loop-item-test.false (c.loop-item.invariant known are)
