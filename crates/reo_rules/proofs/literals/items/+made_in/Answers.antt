-- Part by part.
use Rattle.std.proofs.Common.{◌∙◌, ◌<◌, sym, ap, subst, Some}
use Rattle.reo_values.specs.declared.value.Value.TheVariants as values
use Rattle.reo_values.specs.declared.kindred.Kindred.TheVariants as kinds
use Rattle.reo_trees.specs.declared.literals.Constant.TheVariants as constants
use Rattle.reo_values.proofs.Pairs.{levels}
use Rattle.reo_values.proofs.Again.{pair_deeper}
use Rattle.reo_rules.specs.literals.Items.{item_in}
use Rattle.reo_rules.proofs.literals.ItemLemmas.{item_in-Pair, item_in_Pair-other, both-made, few_parts, parts_in}
use Rattle.reo_rules.proofs.literals.items.+made_in.Goals as goal

pub made_in-requires : goal.made_in-requires
made_in-requires t c =
    let is = c.in-Pair-kindred.is ∙ ap kinds.Pair (sym c.get-y.ensures) in (
      subst (λ n. levels c.get-y.result.now.left < n) c.decreases (pair_deeper c.args.kindred.now c.get-y.result.now is).0,
      (
        (few_parts c.args.kindred.now c.get-y.result.now is c.requires.few).0,
        (parts_in c.args.kindred.now c.args.constant.now c.get-x.result.now c.get-y.result.now (c.in-Pair.is ∙ ap constants.Pair (sym c.get-x.ensures)) is c.requires.item).0,
      ),
    )

pub made_in-requires-in-Pair-kindred : goal.made_in-requires-in-Pair-kindred
made_in-requires-in-Pair-kindred t c =
    let is = c.in-Pair-kindred.is ∙ ap kinds.Pair (sym c.get-y.ensures) in (
      subst (λ n. levels c.get-y.result.now.right < n) c.decreases (pair_deeper c.args.kindred.now c.get-y.result.now is).1,
      (
        (few_parts c.args.kindred.now c.get-y.result.now is c.requires.few).1,
        (parts_in c.args.kindred.now c.args.constant.now c.get-x.result.now c.get-y.result.now (c.in-Pair.is ∙ ap constants.Pair (sym c.get-x.ensures)) is c.requires.item).1,
      ),
    )

pub unreachable-requires : goal.unreachable-requires
unreachable-requires t c =
    let none = ap (item_in c.args.kindred.now) c.in-Pair.is ∙ item_in_Pair-other c.in-Pair.x c.args.kindred.now c.in_default.not-Pair in
    let there = rw none at c.requires.item in
    absurd (cc)

pub returns-in_ok-couple-in-Pair-kindred : goal.returns-in_ok-couple-in-Pair-kindred
returns-in_ok-couple-in-Pair-kindred t c =
    rw (c.in-Pair-kindred.is, c.in-Pair.is, item_in-Pair c.in-Pair.x c.in-Pair-kindred.y, ← c.get-x.ensures, ← c.get-y.ensures)
    (both-made _ _ _ _ c.in_ok-left-in-Pair-kindred.ensures c.in_ok-right-in-Pair-kindred.ensures ∙ ap (λ p. Some (values.Pair p)) (sym c.in_ok-couple-in-Pair-kindred.ensures))
