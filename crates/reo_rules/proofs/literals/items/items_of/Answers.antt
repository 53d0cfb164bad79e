-- One literal more.
use Rattle.std.proofs.Common.{◌∙◌, ◌++◌, [], sym}
use Rattle.std.specs.List.{cons_option}
use Rattle.reo_rules.specs.literals.Items.{item_of}
use Rattle.reo_rules.proofs.literals.ItemLemmas.{filter_map-more}
use Rattle.reo_rules.proofs.literals.items.items_of.Goals as goal

pub loop-literal-preserved : goal.loop-literal-preserved
loop-literal-preserved c =
    c.in_ok-keep.ensures ∙ (λ i. c.loop-literal.invariant i ++ cons_option (c.in_ok-item_of.ensures i) [])
    ∙ sym (filter_map-more (item_of c.args.kindred.now) c.args.literals.now c.loop-literal.literal-index c.literal-item.result c.loop-literal-test.true c.literal-item.is)
