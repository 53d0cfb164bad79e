-- A parameter's name, and then its type.
use Rattle.std.proofs.Common.{◌∙◌, [], subst, sym, ap}
use Rattle.reo_values.proofs.Sequences.{both_none}
use Rattle.reo_trees.specs.declared.programs.Parameter.{Parameter}
use Rattle.reo_rules.specs.Twice.{twice_among, twice_in_type, twice_in_parameter}
use Rattle.reo_rules.specs.Judged.{IsFirst}
use Rattle.reo_rules_names.proofs.AfterLemmas.{judged_err, after_first, after_more, first_left, first_right, more_mapped}
use Rattle.reo_rules_names.proofs.twice.parameters_twice.Goals as goal

pub returns-in_err-once-clause-judged : goal.returns-in_err-once-clause-judged
returns-in_err-once-clause-judged c =
    let p = c.parameter-item.result in
    let fault = c.in_err-once.field-0.0 in
    let name = subst (λ seen. IsFirst (twice_among seen p.line p.name) fault) c.loop-parameter.invariant.0 c.in_err-once.ensures.judged in
    judged_err c.from_residual.result fault _ c.from_residual.ensures
    (after_first twice_in_parameter [] c.args.parameters.now c.loop-parameter.parameter-index p fault c.loop-parameter-test.true c.parameter-item.is c.loop-parameter.invariant.1
    (first_left _ (twice_in_type p.term) fault name))

pub returns-in_err-type_twice-clause-judged : goal.returns-in_err-type_twice-clause-judged
returns-in_err-type_twice-clause-judged c =
    let p = c.parameter-item.result in
    let fault = c.in_err-type_twice.field-0.0 in
    let name = ap (λ seen. twice_among seen p.line p.name) (sym c.loop-parameter.invariant.0) ∙ c.in_ok-once.ensures.judged in
    judged_err c.from_residual-in_err-type_twice.result fault _ c.from_residual-in_err-type_twice.ensures
    (after_first twice_in_parameter [] c.args.parameters.now c.loop-parameter.parameter-index p fault c.loop-parameter-test.true c.parameter-item.is c.loop-parameter.invariant.1
    (first_right _ (twice_in_type p.term) fault name c.in_err-type_twice.ensures))

pub loop-parameter-preserved : goal.loop-parameter-preserved
loop-parameter-preserved c =
    let p = c.parameter-item.result in
    let name = ap (λ seen. twice_among seen p.line p.name) (sym c.loop-parameter.invariant.0) ∙ c.in_ok-once.ensures.judged in (
      more_mapped (λ (q : Parameter). q.name) c.args.parameters.now c.loop-parameter.parameter-index p c.loop-parameter-test.true c.parameter-item.is c.loop-parameter.invariant.0 c.in_ok-once.ensures.seen,
      after_more twice_in_parameter [] c.args.parameters.now c.loop-parameter.parameter-index p c.loop-parameter-test.true c.parameter-item.is c.loop-parameter.invariant.1
          (both_none _ (twice_in_type p.term) name c.in_ok-type_twice.ensures),
    )
