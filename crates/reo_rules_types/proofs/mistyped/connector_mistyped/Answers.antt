-- A connector's items, by its scope.
use Rattle.std.proofs.Common.{◌∙◌, List, sym, ap, subst}
use Rattle.std.specs.List.{flat_map}
use Rattle.reo_trees.specs.declared.items.Item.{Item}
use Rattle.reo_trees.specs.declared.programs.Declaration.{Declaration}
use Rattle.reo_rules.specs.declared.fault.FlatFault.{FlatFault}
use Rattle.reo_rules.specs.declared.fault.FlatFault.TheVariants as faults
use Rattle.reo_rules.specs.Lists.{where_true}
use Rattle.reo_rules.specs.Types.{Typed, types_of}
use Rattle.reo_rules.specs.Scopes.{connectors_of, scope_of}
use Rattle.reo_rules.specs.Mistyped.{is_mistyped}
use Rattle.reo_rules.specs.Judged.{IsFirst}
use Rattle.reo_rules_types.proofs.AfterLemmas.{judged_err}
use Rattle.reo_rules_types.proofs.Kept.{keeps_both}
use Rattle.reo_rules_types.proofs.Scoped.{known_kept}
use Rattle.reo_rules_types.proofs.Standing.{stands_kept, stands_made}
use Rattle.reo_rules_types.proofs.mistyped.connector_mistyped.Goals as goal

abbrev breaks : List Declaration → List Typed → List Item → List FlatFault
breaks before scope items = flat_map (λ (i : Item). where_true (is_mistyped (types_of before) (connectors_of before) scope i.form) (faults.Mistyped i.line)) items

pub items_mistyped-requires-clause-known : goal.items_mistyped-requires-clause-known
items_mistyped-requires-clause-known c = known_kept c.args.types.now c.read_scope.new.types c.in_ok-numbers.ensures.keeps c.args.known.now.declared c.requires.known

pub returns-in_err-items_mistyped-clause-judged : goal.returns-in_err-items_mistyped-clause-judged
returns-in_err-items_mistyped-clause-judged c before stands =
    let old = c.args.types.now in
    let known = stands_kept before old c.read_scope.new.types c.args.known.now c.in_ok-numbers.ensures.keeps c.requires.known stands in
    let scope = c.in_ok-numbers.ensures.scope ∙ ap (λ ts. scope_of ts c.args.connector.now) stands.types_are in
    judged_err c.from_residual-in_err-items_mistyped.result c.in_err-items_mistyped.field-0.0 _ c.from_residual-in_err-items_mistyped.ensures
    (subst (λ fs. IsFirst fs c.in_err-items_mistyped.field-0.0) (λ i. breaks before (scope i) (c.as_slice.ensures i)) (c.in_err-items_mistyped.ensures.judged before known))

pub returns-clause-known : goal.returns-clause-known
returns-clause-known c =
    let old = c.args.types.now in
    let keeps = keeps_both old c.read_scope.new.types c.items_mistyped.new.types c.in_ok-numbers.ensures.keeps c.in_ok-items_mistyped.ensures.keeps in
    known_kept old c.items_mistyped.new.types keeps c.args.known.now.declared c.requires.known

pub returns-clause-judged : goal.returns-clause-judged
returns-clause-judged c before stands =
    let old = c.args.types.now in
    let known = stands_kept before old c.read_scope.new.types c.args.known.now c.in_ok-numbers.ensures.keeps c.requires.known stands in
    let scope = c.in_ok-numbers.ensures.scope ∙ ap (λ ts. scope_of ts c.args.connector.now) stands.types_are in
    sym (λ i. breaks before (scope i) (c.as_slice.ensures i)) ∙ c.in_ok-items_mistyped.ensures.judged before known

pub returns-clause-stands : goal.returns-clause-stands
returns-clause-stands c before stands fresh none =
    let old = c.args.types.now in
    let mid = c.read_scope.new.types in
    let new = c.items_mistyped.new.types in
    let keeps = keeps_both old mid new c.in_ok-numbers.ensures.keeps c.in_ok-items_mistyped.ensures.keeps in
    stands_made before old mid new c.args.known.now c.args.connector.now c.note.new.self c.push.new.self c.in_ok-numbers.numbers c.as_slice-2.result.now
    c.requires.known c.in_ok-numbers.ensures.keeps c.in_ok-items_mistyped.ensures.keeps keeps stands c.in_ok-numbers.ensures.numbers fresh none c.as_slice-2.ensures c.in_ok-note.ensures.names c.in_ok-push.ensures.ok
