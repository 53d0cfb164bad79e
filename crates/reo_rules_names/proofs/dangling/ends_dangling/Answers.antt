-- The parameters, and then the nodes.
use Rattle.std.proofs.Common.{◌∙◌, ap, sym}
use Rattle.std.specs.List.{flat_map}
use Rattle.reo_trees.specs.declared.items.Item.{Item}
use Rattle.reo_rules.specs.Dangling.{dangling_parameter, dangling_in_item}
use Rattle.reo_rules_names.proofs.AfterLemmas.{judged_right, judged_same}
use Rattle.reo_rules_names.proofs.dangling.ends_dangling.Goals as goal

pub returns : goal.returns
returns c touches are =
    let items = λ (i : Item). dangling_in_item touches i.line i.form in
    let none = ap (flat_map (dangling_parameter touches)) (sym c.as_slice.ensures) ∙ c.in_ok-parameters_dangling.ensures touches are in
    judged_right (flat_map (dangling_parameter touches) c.args.connector.now.parameters) (flat_map items c.args.connector.now.items) c.items_dangling.result none
    (judged_same _ _ c.items_dangling.result (ap (flat_map items) c.as_slice-2.ensures) (c.items_dangling.ensures touches are))
