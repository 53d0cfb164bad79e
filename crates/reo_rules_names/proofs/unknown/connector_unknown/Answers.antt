-- The types of the parameters, and then the items.
use Rattle.std.proofs.Common.{◌∙◌, ◌++◌, [], sym, ap, subst}
use Rattle.std.specs.List.{flat_map}
use Rattle.reo_trees.specs.declared.items.Item.{Item}
use Rattle.reo_trees.specs.declared.programs.Parameter.{Parameter}
use Rattle.reo_rules.specs.Lists.{each_after}
use Rattle.reo_rules.specs.Types.{names_of}
use Rattle.reo_rules.specs.Scopes.{parameter_names, node_names}
use Rattle.reo_rules.specs.Unknown.{unknown_in_item, unknown_in_type}
use Rattle.reo_rules.specs.Judged.{IsFirst}
use Rattle.reo_rules_names.proofs.AfterLemmas.{judged_err, judged_same, judged_right, first_left}
use Rattle.reo_rules_names.proofs.UnknownLemmas.{types_same}
use Rattle.reo_rules_names.proofs.unknown.connector_unknown.Goals as goal

pub returns-in_err-parameters_unknown : goal.returns-in_err-parameters_unknown
returns-in_err-parameters_unknown c known cs are connectors =
    let k = c.args.connector.now in
    let fault = c.in_err-parameters_unknown.field-0.0 in
    let items = each_after (λ before (i : Item). unknown_in_item known cs (parameter_names k.parameters ++ node_names before) i.line i.form) [] k.items in
    let all = types_same c.args.types.now.names (names_of known) are.names c.as_slice-parameters.result.now ∙ ap (flat_map (λ (p : Parameter). unknown_in_type (names_of known) p.term)) c.as_slice-parameters.ensures in
    judged_err c.from_residual.result fault _ c.from_residual.ensures
    (first_left (flat_map (λ (p : Parameter). unknown_in_type (names_of known) p.term) k.parameters) items fault (subst (λ fs. IsFirst fs fault) all c.in_err-parameters_unknown.ensures))

pub returns : goal.returns
returns c known cs are connectors =
    let k = c.args.connector.now in
    let ps = c.as_slice-parameters.result.now in
    let first = flat_map (λ (p : Parameter). unknown_in_type (names_of known) p.term) k.parameters in
    let items = each_after (λ before (i : Item). unknown_in_item known cs (parameter_names k.parameters ++ node_names before) i.line i.form) [] k.items in
    let all = types_same c.args.types.now.names (names_of known) are.names ps ∙ ap (flat_map (λ (p : Parameter). unknown_in_type (names_of known) p.term)) c.as_slice-parameters.ensures in
    let second =
    ap (each_after (λ before (i : Item). unknown_in_item known cs (parameter_names ps ++ node_names before) i.line i.form) []) c.as_slice-items.ensures
    ∙ ap (λ qs. each_after (λ before (i : Item). unknown_in_item known cs (parameter_names qs ++ node_names before) i.line i.form) [] k.items) c.as_slice-parameters.ensures in
    judged_right first items c.items_unknown.result (sym all ∙ c.in_ok-parameters_unknown.ensures)
    (judged_same _ _ c.items_unknown.result second (c.items_unknown.ensures known cs ps are connectors c.in_ok-nodes.ensures))
