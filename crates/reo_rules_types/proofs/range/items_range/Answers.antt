-- One more item.
use Rattle.std.proofs.Common.{◌∙◌, sym, subst}
use Rattle.reo_trees.specs.declared.items.Item.{Item}
use Rattle.reo_rules.specs.Ranges.{range_in_item}
use Rattle.reo_rules.specs.Judged.{IsFirst}
use Rattle.reo_rules_types.proofs.AfterLemmas.{judged_err, flat_more, flat_first}
use Rattle.reo_rules_types.specs.Scoped.{typed}
use Rattle.reo_rules_types.proofs.Kept.{keeps_both}
use Rattle.reo_rules_types.proofs.Scoped.{known_kept, typed_kept}
use Rattle.reo_rules_types.proofs.range.items_range.Goals as goal

pub item_range-requires-clause-known : goal.item_range-requires-clause-known
item_range-requires-clause-known c = known_kept c.args.types.now c.loop-item.types c.loop-item.invariant.0 c.args.declared.now c.requires.known

pub item_range-requires-clause-scope : goal.item_range-requires-clause-scope
item_range-requires-clause-scope c = known_kept c.args.types.now c.loop-item.types c.loop-item.invariant.0 c.args.scope.now c.requires.scope

pub returns-in_err-item_range-clause-judged : goal.returns-in_err-item_range-clause-judged
returns-in_err-item_range-clause-judged c =
    let old = c.args.types.now in
    let x = c.item-item.result in
    let keeps = c.loop-item.invariant.0 in
    let fault = c.in_err-item_range.field-0.0 in
    let known = typed_kept old c.loop-item.types keeps c.args.declared.now c.requires.known in
    let scope = typed_kept old c.loop-item.types keeps c.args.scope.now c.requires.scope in
    judged_err c.from_residual.result fault _ c.from_residual.ensures
    (flat_first (λ (i : Item). range_in_item (typed old c.args.declared.now) (typed old c.args.scope.now) i.line i.form) c.args.items.now c.loop-item.item-index x fault c.loop-item-test.true c.item-item.is c.loop-item.invariant.1
    (subst (λ fs. IsFirst fs fault) (λ i. range_in_item (known i) (scope i) x.line x.form) c.in_err-item_range.ensures.judged))

pub loop-item-preserved : goal.loop-item-preserved
loop-item-preserved c =
    let old = c.args.types.now in
    let x = c.item-item.result in
    let keeps = c.loop-item.invariant.0 in
    let known = typed_kept old c.loop-item.types keeps c.args.declared.now c.requires.known in
    let scope = typed_kept old c.loop-item.types keeps c.args.scope.now c.requires.scope in (
      keeps_both old c.loop-item.types c.item_range.new.types keeps c.in_ok-item_range.ensures.keeps,
      flat_more (λ (i : Item). range_in_item (typed old c.args.declared.now) (typed old c.args.scope.now) i.line i.form) c.args.items.now c.loop-item.item-index x c.loop-item-test.true c.item-item.is c.loop-item.invariant.1
          (sym (λ i. range_in_item (known i) (scope i) x.line x.form) ∙ c.in_ok-item_range.ensures.judged),
    )
