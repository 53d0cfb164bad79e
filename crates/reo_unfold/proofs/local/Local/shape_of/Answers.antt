-- By the number of the name.
use Rattle.std.proofs.Common.{arith, ◌≡◌, ◌∙◌, ◌-◌, [], sym, ap, subst, length, get_or, position, bytes_eq}
use Rattle.std.specs.Prelude.{slice_get}
use Rattle.std.proofs.lemmas.Option.{slice_get_within, get_or_from_slice_get}
use Rattle.reo_trees.specs.declared.items.Item.{Item}
use Rattle.reo_trees.specs.declared.programs.Parameter.{Parameter}
use Rattle.reo_rules.specs.Types.{resolved}
use Rattle.reo_unfold.specs.Known.{shape_type}
use Rattle.reo_unfold.specs.Fits.{FormFits}
use Rattle.reo_unfold.specs.Local.{shape_in}
use Rattle.reo_unfold.proofs.LocalLemmas.{node_at, node_within, node_is, parameter_is, nowhere_is}
use Rattle.reo_unfold.proofs.local.Local.shape_of.Goals as goal

pub at-requires-else-number-parameters : goal.at-requires-else-number-parameters
at-requires-else-number-parameters c =
    let late = c.if-number-parameters.false in
    let count = c.len-parameters.ensures in
    let within = node_within [] c.args.connector.now c.args.self.now.names c.requires.names c.args.name.now c.in-Some.number (ap (λ n. position (bytes_eq n) c.args.self.now.names) (sym c.as_slice.ensures) ∙ sym c.find.ensures ∙ c.in-Some.is) (omega arith) in
    let node = node_at [] [] c.args.connector.now.items _ within in
    let same = ap (λ ns. slice_get ns (c.in-Some.number - length c.args.connector.now.parameters)) c.requires.nodes in
    let there = slice_get_within c.args.self.now.nodes (c.in-Some.number - length c.args.connector.now.parameters) _ (same ∙ node.at) in
    omega arith

pub at-requires-else-number-parameters-2 : goal.at-requires-else-number-parameters-2
at-requires-else-number-parameters-2 c =
    let late = c.if-number-parameters.false in
    let count = c.len-parameters.ensures in
    let within = node_within [] c.args.connector.now c.args.self.now.names c.requires.names c.args.name.now c.in-Some.number (ap (λ n. position (bytes_eq n) c.args.self.now.names) (sym c.as_slice.ensures) ∙ sym c.find.ensures ∙ c.in-Some.is) (omega arith) in
    let node = node_at [] [] c.args.connector.now.items _ within in
    let same = ap (λ ns. slice_get ns (c.in-Some.number - length c.args.connector.now.parameters)) c.requires.nodes in
    let read = c.at-else-number-parameters.ensures ∙ ap (λ k. get_or c.args.self.now.nodes (c.in-Some.number - k) c.at-else-number-parameters.result.now) count in
    let is = get_or_from_slice_get c.args.self.now.nodes (c.in-Some.number - length c.args.connector.now.parameters) _ c.at-else-number-parameters.result.now (same ∙ node.at) in
    let there = node.within in
    omega arith

pub returns-then-number-parameters-clause-is : goal.returns-then-number-parameters-clause-is
returns-then-number-parameters-clause-is c ts =
    let within = c.if-number-parameters.true in
    let count = c.len-parameters.ensures in
    ap (λ (p : Parameter). resolved ts p.term.shape) c.at.ensures
    ∙ sym (parameter_is ts c.args.connector.now c.args.self.now.names c.requires.names c.args.name.now c.in-Some.number c.at.result.now (ap (λ n. position (bytes_eq n) c.args.self.now.names) (sym c.as_slice.ensures) ∙ sym c.find.ensures ∙ c.in-Some.is) (omega arith))

pub returns-else-number-parameters-clause-is : goal.returns-else-number-parameters-clause-is
returns-else-number-parameters-clause-is c ts =
    let late = c.if-number-parameters.false in
    let count = c.len-parameters.ensures in
    let within = node_within ts c.args.connector.now c.args.self.now.names c.requires.names c.args.name.now c.in-Some.number (ap (λ n. position (bytes_eq n) c.args.self.now.names) (sym c.as_slice.ensures) ∙ sym c.find.ensures ∙ c.in-Some.is) (omega arith) in
    let node = node_at ts [] c.args.connector.now.items _ within in
    let same = ap (λ ns. slice_get ns (c.in-Some.number - length c.args.connector.now.parameters)) c.requires.nodes in
    let read = c.at-else-number-parameters.ensures ∙ ap (λ k. get_or c.args.self.now.nodes (c.in-Some.number - k) c.at-else-number-parameters.result.now) count in
    let is = get_or_from_slice_get c.args.self.now.nodes (c.in-Some.number - length c.args.connector.now.parameters) _ c.at-else-number-parameters.result.now (same ∙ node.at) in
    let place : c.at-else-number-parameters.result.now ≡ node.place = omega arith in
    ap (shape_type ts) (c.node_shape.ensures.is ∙ ap (λ (i : Item). shape_in i.form) (c.at-else-number-parameters-2.ensures ∙ ap (λ k. get_or c.args.connector.now.items k c.at-else-number-parameters-2.result.now) place))
    ∙ sym (node_is ts c.args.connector.now c.args.self.now.names c.requires.names c.args.name.now c.in-Some.number c.at-else-number-parameters-2.result.now node (ap (λ n. position (bytes_eq n) c.args.self.now.names) (sym c.as_slice.ensures) ∙ sym c.find.ensures ∙ c.in-Some.is) (omega arith))

pub returns-in-None-clause-is : goal.returns-in-None-clause-is
returns-in-None-clause-is c ts = sym (nowhere_is ts c.args.connector.now c.args.self.now.names c.requires.names c.args.name.now (ap (λ n. position (bytes_eq n) c.args.self.now.names) (sym c.as_slice.ensures) ∙ sym c.find.ensures ∙ c.in-None.is))

pub returns-else-number-parameters-clause-few : goal.returns-else-number-parameters-clause-few
returns-else-number-parameters-clause-few c fit =
    let late = c.if-number-parameters.false in
    let count = c.len-parameters.ensures in
    let within = node_within [] c.args.connector.now c.args.self.now.names c.requires.names c.args.name.now c.in-Some.number (ap (λ n. position (bytes_eq n) c.args.self.now.names) (sym c.as_slice.ensures) ∙ sym c.find.ensures ∙ c.in-Some.is) (omega arith) in
    let node = node_at [] [] c.args.connector.now.items _ within in
    let same = ap (λ ns. slice_get ns (c.in-Some.number - length c.args.connector.now.parameters)) c.requires.nodes in
    let read = c.at-else-number-parameters.ensures ∙ ap (λ k. get_or c.args.self.now.nodes (c.in-Some.number - k) c.at-else-number-parameters.result.now) count in
    let is = get_or_from_slice_get c.args.self.now.nodes (c.in-Some.number - length c.args.connector.now.parameters) _ c.at-else-number-parameters.result.now (same ∙ node.at) in
    let there = node.within in
    c.node_shape.ensures.few
    (subst (λ (i : Item). FormFits i.form) (sym c.at-else-number-parameters-2.ensures) (fit.items c.at-else-number-parameters.result.now c.at-else-number-parameters-2.result.now (omega arith)))
