-- The ends of one more item.
use Rattle.std.proofs.Common.{subst, take}
use Rattle.std.specs.List.{flat_map}
use Rattle.std.proofs.lemmas.List.{take_all}
use Rattle.reo_trees.specs.declared.items.Item.{Item}
use Rattle.reo_rules.specs.Touches.{touches_in}
use Rattle.reo_rules_names.proofs.AfterLemmas.{more_flat}
use Rattle.reo_rules_names.specs.EndsAtNames.{AreEnds}
use Rattle.reo_rules_names.proofs.dangling.item_ends.Goals as goal

pub loop-item-preserved : goal.loop-item-preserved
loop-item-preserved c known are =
    let items = c.args.items.now in
    let at = c.loop-item.item-index in
    let ends = λ (i : Item). touches_in known i.form in
    subst (λ ts. AreEnds ts c.note_item.new.ends) (more_flat ends items at c.item-item.result c.loop-item-test.true c.item-item.is)
    (c.in_ok-note_item.ensures known (flat_map ends (take at items)) are (c.loop-item.invariant known are))

pub returns : goal.returns
returns c known are =
    subst (λ items. AreEnds (flat_map (λ (i : Item). touches_in known i.form) items) c.loop-item.ends) (take_all c.loop-item.item-index c.args.items.now c.loop-item-test.false) (c.loop-item.invariant known are)
