-- A node's type, by the names of the types in the table.
use Rattle.std.proofs.Common.{◌∙◌, sym, ap}
use Rattle.reo_rules.specs.Types.{names_of}
use Rattle.reo_rules.specs.Unknown.{unknown_in_item}
use Rattle.reo_rules_names.proofs.AfterLemmas.{judged_same}
use Rattle.reo_rules_names.proofs.UnknownLemmas.{unknown_parts-same}
use Rattle.reo_rules_names.proofs.unknown.item_unknown.Goals as goal

pub returns-in-Node : goal.returns-in-Node
returns-in-Node c known are =
    let term = c.in-Node.term in
    let all = unknown_parts-same c.args.types.now.names (names_of known) are.names term.line term.shape ∙ ap (unknown_in_item known c.args.connectors.now c.args.nodes.now c.args.line) (sym c.in-Node.is) in
    judged_same _ _ c.type_unknown.result all c.type_unknown.ensures
