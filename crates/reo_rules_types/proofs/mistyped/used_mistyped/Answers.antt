-- The connector of the name has its parameters' numbers at the same place.
use Rattle.std.proofs.Common.{◌∙◌, ℕ, List, Bool, position, sym, ap, subst, bytes_eq}
use Rattle.std.specs.Prelude.{not}
use Rattle.std.proofs.lemmas.Option.{same_Some}
use Rattle.reo_values.specs.declared.kindred.Kindred.{Kindred}
use Rattle.reo_trees.specs.declared.programs.Parameter.{Parameter}
use Rattle.reo_rules.specs.Types.{type_named, types_of, resolved, is_same}
use Rattle.reo_rules.specs.Scopes.{connectors_of}
use Rattle.reo_rules.specs.Mistyped.{is_use_mistyped}
use Rattle.reo_rules_types.specs.Scoped.{typed}
use Rattle.reo_rules_types.specs.Signed.{AreOf, parameter_types}
use Rattle.reo_rules_types.proofs.Signatures.{connector_at, connector_none, signed_at, zip-map, zip_nil}
use Rattle.reo_rules_types.proofs.mistyped.used_mistyped.Goals as goal

pub returns-in-Some-get : goal.returns-in-Some-get
returns-in-Some-get c before stands =
    let types = c.args.types.now in
    let known = c.args.known.now in
    let cs = connectors_of before in
    let at = ap (λ n. position (bytes_eq n) known.connectors) (sym c.as_slice.ensures) ∙ sym c.find.ensures ∙ c.in-Some.is in
    let here = connector_at cs known.connectors c.args.name.now stands.names_are c.in-Some.place at in
    let there = signed_at types (types_of before) known.signatures cs c.in-Some.place here.0 stands.signed here.1 in
    let numbers = c.as_slice-in-Some-get.ensures ∙ same_Some _ _ (c.in-Some-get.ensures ∙ there.1) in
    let kinds = parameter_types (types_of before) here.0 in
    let scope = typed types c.args.scope.now in
    let test : List ℕ × Kindred → Bool = λ q. not (is_same (type_named scope q.0) q.1) in
    c.use_mistyped.ensures kinds (subst (λ ns. AreOf types ns kinds) (sym numbers) there.2)
    ∙ zip-map (λ (p : Parameter). resolved (types_of before) p.term.shape) test c.args.arguments.now here.0.parameters
    ∙ ap (is_use_mistyped (types_of before) scope c.args.arguments.now) (sym here.2)

pub returns-in-None-get : goal.returns-in-None-get
returns-in-None-get c before stands =
    let types = c.args.types.now in
    let known = c.args.known.now in
    let cs = connectors_of before in
    let at = ap (λ n. position (bytes_eq n) known.connectors) (sym c.as_slice.ensures) ∙ sym c.find.ensures ∙ c.in-Some.is in
    let here = connector_at cs known.connectors c.args.name.now stands.names_are c.in-Some.place at in
    let there = signed_at types (types_of before) known.signatures cs c.in-Some.place here.0 stands.signed here.1 in
    let none = c.in-None-get.ensures ∙ there.1 in
    absurd (cc)

pub returns-in-None : goal.returns-in-None
returns-in-None c before stands =
    let known = c.args.known.now in
    let at = ap (λ n. position (bytes_eq n) known.connectors) (sym c.as_slice.ensures) ∙ sym c.find.ensures ∙ c.in-None.is in
    let scope = typed c.args.types.now c.args.scope.now in
    sym (zip_nil (λ (q : List ℕ × Parameter). not (is_same (type_named scope q.0) (resolved (types_of before) q.1.term.shape))) c.args.arguments.now)
    ∙ ap (is_use_mistyped (types_of before) scope c.args.arguments.now) (sym (connector_none (connectors_of before) known.connectors c.args.name.now stands.names_are at))
