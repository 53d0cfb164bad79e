-- The parameters, and then the nodes.
use Rattle.std.proofs.Common.{◌∙◌, [], ◌++◌, map, ap, subst}
use Rattle.std.specs.List.{flat_map}
use Rattle.reo_rules_types.proofs.Sequences.{left_none}
use Rattle.reo_trees.specs.declared.items.Item.{Item}
use Rattle.reo_trees.specs.declared.programs.Parameter.{Parameter}
use Rattle.reo_rules.specs.Lists.{each_after}
use Rattle.reo_rules.specs.Types.{resolved}
use Rattle.reo_rules.specs.Scopes.{node_types_in, parameter_type}
use Rattle.reo_rules.specs.Twice.{twice_in_parameter, twice_in_item}
use Rattle.reo_rules_types.proofs.AfterLemmas.{right_none}
use Rattle.reo_rules_types.proofs.Declared.{names_of-parameters}
use Rattle.reo_rules_types.specs.Scoped.{typed}
use Rattle.reo_rules_types.specs.Signed.{AreOf}
use Rattle.reo_rules_types.proofs.Scoped.{known_kept, typed_kept}
use Rattle.reo_rules_types.proofs.Signed.{of_kept}
use Rattle.reo_rules_types.proofs.Names.{keys_are}
use Rattle.reo_rules_types.proofs.scopes.read_scope.Goals as goal

pub read_parameters-requires-clause-distinct : goal.read_parameters-requires-clause-distinct
read_parameters-requires-clause-distinct c =
    ap (each_after twice_in_parameter []) c.as_slice-parameters.ensures
    ∙ left_none (each_after twice_in_parameter [] c.args.connector.now.parameters) (each_after (λ before (i : Item). twice_in_item c.args.connector.now.parameters before i.line i.form) [] c.args.connector.now.items) c.requires.distinct

pub read_nodes-requires-clause-known : goal.read_nodes-requires-clause-known
read_nodes-requires-clause-known c = known_kept c.args.types.now c.read_parameters.new.types c.in_ok-numbers.ensures.keeps c.args.declared.now c.requires.known

pub read_nodes-requires-clause-names : goal.read_nodes-requires-clause-names
read_nodes-requires-clause-names c =
    keys_are c.read_parameters.new.types c.read_parameters.new.scope _ c.in_ok-numbers.ensures.scope ∙ names_of-parameters (typed c.args.types.now c.args.declared.now) c.as_slice-parameters.result.now

pub read_nodes-requires-clause-distinct : goal.read_nodes-requires-clause-distinct
read_nodes-requires-clause-distinct c =
    (λ k. each_after (λ before (i : Item). twice_in_item (c.as_slice-parameters.ensures k) before i.line i.form) [] (c.as_slice-items.ensures k))
    ∙ right_none (each_after twice_in_parameter [] c.args.connector.now.parameters) (each_after (λ before (i : Item). twice_in_item c.args.connector.now.parameters before i.line i.form) [] c.args.connector.now.items) c.requires.distinct

pub returns-clause-scope : goal.returns-clause-scope
returns-clause-scope c =
    let old = c.args.types.now in
    let es = c.args.declared.now in
    let known = typed old es in
    let same = typed_kept old c.read_parameters.new.types c.in_ok-numbers.ensures.keeps es c.requires.known in
    c.in_ok-read_nodes.ensures.scope
    ∙ (λ k. c.in_ok-numbers.ensures.scope k ++ flat_map (λ (i : Item). node_types_in (same k) i.form) (c.as_slice-items.ensures k))
    ∙ ap (λ ps. map (parameter_type known) ps ++ flat_map (λ (i : Item). node_types_in known i.form) c.args.connector.now.items) c.as_slice-parameters.ensures

pub returns-clause-numbers : goal.returns-clause-numbers
returns-clause-numbers c =
    let known = typed c.args.types.now c.args.declared.now in
    let new = c.read_nodes.new.types in
    subst (λ ps. AreOf new c.in_ok-numbers.numbers (map (λ (p : Parameter). resolved known p.term.shape) ps)) c.as_slice-parameters.ensures
    (of_kept c.read_parameters.new.types new c.in_ok-read_nodes.ensures.keeps c.in_ok-numbers.numbers _ c.in_ok-numbers.ensures.numbers)
