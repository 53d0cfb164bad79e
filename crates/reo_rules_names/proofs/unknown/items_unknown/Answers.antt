-- An item, and then the node that it declares.
use Rattle.std.proofs.Common.{◌∙◌, ◌++◌, [], List, take, refl, sym, ap, subst}
use Rattle.std.proofs.lemmas.List.{append-nil, append_assoc}
use Rattle.reo_trees.specs.declared.items.Item.{Item}
use Rattle.reo_rules.specs.Scopes.{parameter_names, node_names, node_names_in}
use Rattle.reo_rules.specs.Unknown.{unknown_in_item}
use Rattle.reo_rules.specs.Judged.{IsFirst}
use Rattle.reo_rules_names.proofs.AfterLemmas.{judged_err, after_first, after_more, after_all, more_flat}
use Rattle.reo_rules_names.specs.SameNames.{SameNames}
use Rattle.reo_rules_names.proofs.UnknownLemmas.{item_same}
use Rattle.reo_rules_names.proofs.unknown.items_unknown.Goals as goal

pub returns-in_err-item_unknown : goal.returns-in_err-item_unknown
returns-in_err-item_unknown c known cs ps are connectors nodes =
    let items = c.args.items.now in
    let at = c.loop-item.item-index in
    let item = c.item-item.result in
    let inv = c.loop-item.invariant known cs ps are connectors nodes in
    let fault = c.in_err-item_unknown.field-0.0 in
    let rule = λ (before : List Item) (i : Item). unknown_in_item known cs (parameter_names ps ++ node_names before) i.line i.form in
    let same = item_same known c.args.connectors.now cs c.loop-item.nodes (parameter_names ps ++ node_names (take at items)) item.line item.form connectors inv.0 in
    judged_err c.from_residual.result fault _ c.from_residual.ensures
    (after_first rule [] items at item fault c.loop-item-test.true c.item-item.is inv.1 (subst (λ fs. IsFirst fs fault) same (c.in_err-item_unknown.ensures known are)))

pub loop-item-init : goal.loop-item-init
loop-item-init c known cs ps are connectors nodes = (subst (SameNames c.args.nodes.now) (sym (append-nil (parameter_names ps))) nodes, refl)

pub loop-item-preserved : goal.loop-item-preserved
loop-item-preserved c known cs ps are connectors nodes =
    let items = c.args.items.now in
    let at = c.loop-item.item-index in
    let item = c.item-item.result in
    let inv = c.loop-item.invariant known cs ps are connectors nodes in
    let before = parameter_names ps ++ node_names (take at items) in
    let rule = λ (b : List Item) (i : Item). unknown_in_item known cs (parameter_names ps ++ node_names b) i.line i.form in
    let same = item_same known c.args.connectors.now cs c.loop-item.nodes before item.line item.form connectors inv.0 in
    let more = append_assoc (parameter_names ps) (node_names (take at items)) (node_names_in item.form) ∙ ap (λ ns. parameter_names ps ++ ns) (more_flat (λ (i : Item). node_names_in i.form) items at item c.loop-item-test.true c.item-item.is) in (
      subst (SameNames c.note_node.new.nodes) more (c.in_ok-note_node.ensures before inv.0),
      after_more rule [] items at item c.loop-item-test.true c.item-item.is inv.1 (sym same ∙ c.in_ok-item_unknown.ensures known are),
    )

pub returns : goal.returns
returns c known cs ps are connectors nodes =
    after_all (λ (b : List Item) (i : Item). unknown_in_item known cs (parameter_names ps ++ node_names b) i.line i.form) [] c.args.items.now c.loop-item.item-index c.loop-item-test.false (c.loop-item.invariant known cs ps are connectors nodes).1
