-- One more item.
use Rattle.std.proofs.Common.{◌∙◌, inr, sym, ap}
use Rattle.reo_trees.specs.declared.items.Item.{Item}
use Rattle.reo_rules.specs.declared.fault.FlatFault.TheVariants as faults
use Rattle.reo_rules.specs.Lists.{where_true, first_of}
use Rattle.reo_rules.specs.Types.{types_of}
use Rattle.reo_rules.specs.Scopes.{connectors_of}
use Rattle.reo_rules.specs.Mistyped.{is_mistyped}
use Rattle.reo_rules_types.proofs.AfterLemmas.{flat_more, flat_first}
use Rattle.reo_rules_types.specs.Scoped.{typed}
use Rattle.reo_rules_types.proofs.Kept.{keeps_both}
use Rattle.reo_rules_types.proofs.Scoped.{known_kept, typed_kept}
use Rattle.reo_rules_types.proofs.Standing.{stands_kept}
use Rattle.reo_rules_types.proofs.mistyped.items_mistyped.Goals as goal

pub item_mistyped-requires-clause-known : goal.item_mistyped-requires-clause-known
item_mistyped-requires-clause-known c = known_kept c.args.types.now c.loop-item.types c.loop-item.invariant.0 c.args.known.now.declared c.requires.known

pub item_mistyped-requires-clause-scope : goal.item_mistyped-requires-clause-scope
item_mistyped-requires-clause-scope c = known_kept c.args.types.now c.loop-item.types c.loop-item.invariant.0 c.args.scope.now c.requires.scope

pub returns-then-branch-clause-judged : goal.returns-then-branch-clause-judged
returns-then-branch-clause-judged c before stands =
    let old = c.args.types.now in
    let keeps = c.loop-item.invariant.0 in
    let x = c.item-item.result in
    let known = stands_kept before old c.loop-item.types c.args.known.now keeps c.requires.known stands in
    let test = ap (λ scope. is_mistyped (types_of before) (connectors_of before) scope x.form) (sym (typed_kept old c.loop-item.types keeps c.args.scope.now c.requires.scope))
    ∙ sym (c.in_ok-item_mistyped.ensures.test before known) ∙ c.if-branch.true in
    flat_first (λ (i : Item). where_true (is_mistyped (types_of before) (connectors_of before) (typed old c.args.scope.now) i.form) (faults.Mistyped i.line))
    c.args.items.now c.loop-item.item-index x (faults.Mistyped x.line) c.loop-item-test.true c.item-item.is (c.loop-item.invariant.1 before stands)
    (inr (ap (λ b. first_of (where_true b (faults.Mistyped x.line))) test))

pub loop-item-preserved : goal.loop-item-preserved
loop-item-preserved c =
    let old = c.args.types.now in
    let keeps = c.loop-item.invariant.0 in
    let x = c.item-item.result in (
      keeps_both old c.loop-item.types c.item_mistyped.new.types keeps c.in_ok-item_mistyped.ensures.keeps,
      λ before stands.
          let known = stands_kept before old c.loop-item.types c.args.known.now keeps c.requires.known stands in
          let test = ap (λ scope. is_mistyped (types_of before) (connectors_of before) scope x.form) (sym (typed_kept old c.loop-item.types keeps c.args.scope.now c.requires.scope))
          ∙ sym (c.in_ok-item_mistyped.ensures.test before known) ∙ c.if-branch.false in
          flat_more (λ (i : Item). where_true (is_mistyped (types_of before) (connectors_of before) (typed old c.args.scope.now) i.form) (faults.Mistyped i.line))
          c.args.items.now c.loop-item.item-index x c.loop-item-test.true c.item-item.is (c.loop-item.invariant.1 before stands)
          (ap (λ b. where_true b (faults.Mistyped x.line)) test),
    )
