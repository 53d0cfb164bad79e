-- One more parameter.
use Rattle.std.proofs.Common.{◌∙◌, [], ◌∷◌, ◌++◌, map, take, Some, refl, sym, ap, subst}
use Rattle.reo_values.specs.declared.kindred.Kindred.{Kindred}
use Rattle.reo_trees.specs.declared.programs.Parameter.{Parameter}
use Rattle.reo_rules.specs.Lists.{has_name}
use Rattle.reo_rules.specs.Types.{resolved}
use Rattle.reo_rules.specs.Scopes.{parameter_type}
use Rattle.reo_rules_types.proofs.AfterLemmas.{more_mapped}
use Rattle.reo_rules_types.proofs.Declared.{names_of-parameters}
use Rattle.reo_rules_types.specs.Scoped.{typed, AreKnown}
use Rattle.reo_rules_types.specs.Signed.{AreOf}
use Rattle.reo_rules_types.proofs.Kept.{keeps_both}
use Rattle.reo_rules_types.proofs.Scoped.{known_kept, typed_kept}
use Rattle.reo_rules_types.proofs.Signed.{of_push, of_kept}
use Rattle.reo_rules_types.proofs.Names.{new_parameter, keys_are}
use Rattle.reo_rules_types.proofs.scopes.read_parameters.Goals as goal

pub declare-requires-clause-known : goal.declare-requires-clause-known
declare-requires-clause-known c = known_kept c.args.types.now c.loop-parameter.types c.loop-parameter.invariant.0 c.args.declared.now c.requires.known

pub declare-requires-clause-scope : goal.declare-requires-clause-scope
declare-requires-clause-scope c = c.loop-parameter.invariant.1

pub declare-requires-clause-new : goal.declare-requires-clause-new
declare-requires-clause-new c =
    let known = typed c.args.types.now c.args.declared.now in
    let ps = c.args.parameters.now in
    let i = c.loop-parameter.parameter-index in
    let p = c.parameter-item.result in
    ap (λ ns. has_name ns p.name) (keys_are c.loop-parameter.types c.loop-parameter.scope _ c.loop-parameter.invariant.2 ∙ names_of-parameters known (take i ps))
    ∙ new_parameter ps i p c.loop-parameter-test.true c.parameter-item.is c.requires.distinct

pub loop-parameter-init : goal.loop-parameter-init
loop-parameter-init c =
    let types = c.args.types.now in (
      λ n k is. is,
      subst (AreKnown types) (sym c.requires.scope) (record { unit = c.requires.known.unit; below = tt }),
      ap (typed types) c.requires.scope,
      subst (λ ns. AreOf types ns []) (sym c.new-numbers.ensures) tt,
    )

pub loop-parameter-preserved : goal.loop-parameter-preserved
loop-parameter-preserved c =
    let old = c.args.types.now in
    let mid = c.loop-parameter.types in
    let new = c.declare.new.types in
    let es = c.args.declared.now in
    let known = typed old es in
    let ps = c.args.parameters.now in
    let i = c.loop-parameter.parameter-index in
    let p = c.parameter-item.result in
    let inv = c.loop-parameter.invariant in
    let same = typed_kept old mid inv.0 es c.requires.known in
    let kind : Parameter → Kindred = λ q. resolved known q.term.shape in
    let here = c.in_ok-number.ensures.number ∙ ap (λ k. Some (resolved k p.term.shape)) same in
    let numbers = of_push new c.loop-parameter.numbers (map kind (take i ps)) c.in_ok-number.number (kind p)
    (of_kept mid new c.in_ok-number.ensures.keeps c.loop-parameter.numbers (map kind (take i ps)) inv.3) here in (
      keeps_both old mid new inv.0 c.in_ok-number.ensures.keeps,
      c.in_ok-number.ensures.known,
      more_mapped (parameter_type known) ps i p c.loop-parameter-test.true c.parameter-item.is inv.2 (c.in_ok-number.ensures.scope ∙ (λ k. typed mid c.loop-parameter.scope ++ record { name = p.name; kindred = resolved (same k) p.term.shape } ∷ [])),
      subst (λ ks. AreOf new c.push.new.self ks) (more_mapped kind ps i p c.loop-parameter-test.true c.parameter-item.is refl refl)
          (subst (λ ns. AreOf new ns (map kind (take i ps) ++ kind p ∷ [])) (sym c.in_ok-push.ensures.ok) numbers),
    )
