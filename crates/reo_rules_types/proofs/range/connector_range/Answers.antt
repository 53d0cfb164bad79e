-- The types of the parameters, and then the items.
use Rattle.std.proofs.Common.{◌∙◌, List, sym, subst}
use Rattle.std.specs.List.{flat_map}
use Rattle.reo_trees.specs.declared.items.Item.{Item}
use Rattle.reo_trees.specs.declared.programs.Parameter.{Parameter}
use Rattle.reo_rules.specs.declared.fault.FlatFault.{FlatFault}
use Rattle.reo_rules.specs.Types.{Typed}
use Rattle.reo_rules.specs.Scopes.{scope_of}
use Rattle.reo_rules.specs.Ranges.{range_in_type, range_in_item}
use Rattle.reo_rules.specs.Judged.{IsFirst, IsJudged}
use Rattle.reo_rules_types.proofs.AfterLemmas.{judged_err, judged_right, first_left}
use Rattle.reo_rules_types.specs.Scoped.{typed}
use Rattle.reo_rules_types.proofs.Kept.{keeps_both}
use Rattle.reo_rules_types.proofs.Scoped.{known_kept, typed_kept}
use Rattle.reo_rules_types.proofs.range.connector_range.Goals as goal

abbrev in_parameters : List Typed → List Parameter → List FlatFault
in_parameters known ps = flat_map (λ (p : Parameter). range_in_type known p.term) ps

abbrev in_items : List Typed → List Typed → List Item → List FlatFault
in_items known scope items = flat_map (λ (i : Item). range_in_item known scope i.line i.form) items

pub parameters_range-requires : goal.parameters_range-requires
parameters_range-requires c = known_kept c.args.types.now c.read_scope.new.types c.in_ok-_numbers.ensures.keeps c.args.declared.now c.requires.known

pub returns-in_err-parameters_range-clause-judged : goal.returns-in_err-parameters_range-clause-judged
returns-in_err-parameters_range-clause-judged c =
    let old = c.args.types.now in
    let known = typed old c.args.declared.now in
    let k = c.args.connector.now in
    let fault = c.in_err-parameters_range.field-0.0 in
    let same = typed_kept old c.read_scope.new.types c.in_ok-_numbers.ensures.keeps c.args.declared.now c.requires.known in
    judged_err c.from_residual-in_err-parameters_range.result fault _ c.from_residual-in_err-parameters_range.ensures
    (first_left (in_parameters known k.parameters) (in_items known (scope_of known k) k.items) fault
    (subst (λ fs. IsFirst fs fault) (λ i. in_parameters (same i) (c.as_slice.ensures i)) c.in_err-parameters_range.ensures.judged))

pub items_range-requires-clause-known : goal.items_range-requires-clause-known
items_range-requires-clause-known c =
    let keeps = keeps_both c.args.types.now c.read_scope.new.types c.parameters_range.new.types c.in_ok-_numbers.ensures.keeps c.in_ok-parameters_range.ensures.keeps in
    known_kept c.args.types.now c.parameters_range.new.types keeps c.args.declared.now c.requires.known

pub items_range-requires-clause-scope : goal.items_range-requires-clause-scope
items_range-requires-clause-scope c = known_kept c.read_scope.new.types c.parameters_range.new.types c.in_ok-parameters_range.ensures.keeps c.read_scope.new.scope c.in_ok-_numbers.ensures.known

pub returns-clause-judged : goal.returns-clause-judged
returns-clause-judged c =
    let old = c.args.types.now in
    let mid = c.read_scope.new.types in
    let new = c.parameters_range.new.types in
    let es = c.args.declared.now in
    let known = typed old es in
    let k = c.args.connector.now in
    let first = c.in_ok-_numbers.ensures.keeps in
    let second = c.in_ok-parameters_range.ensures.keeps in
    let same = typed_kept old mid first es c.requires.known in
    let both = typed_kept old new (keeps_both old mid new first second) es c.requires.known in
    let scope = typed_kept mid new second c.read_scope.new.scope c.in_ok-_numbers.ensures.known ∙ c.in_ok-_numbers.ensures.scope in
    judged_right (in_parameters known k.parameters) (in_items known (scope_of known k) k.items) c.items_range.result
    (sym (λ i. in_parameters (same i) (c.as_slice.ensures i)) ∙ c.in_ok-parameters_range.ensures.judged)
    (subst (λ fs. IsJudged fs c.items_range.result) (λ i. in_items (both i) (scope i) (c.as_slice-2.ensures i)) c.items_range.ensures.judged)
