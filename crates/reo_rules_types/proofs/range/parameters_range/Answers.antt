-- One more parameter.
use Rattle.std.proofs.Common.{◌∙◌, sym, ap, subst}
use Rattle.reo_trees.specs.declared.programs.Parameter.{Parameter}
use Rattle.reo_rules.specs.Ranges.{range_in_type}
use Rattle.reo_rules.specs.Judged.{IsFirst}
use Rattle.reo_rules_types.proofs.AfterLemmas.{judged_err, flat_more, flat_first}
use Rattle.reo_rules_types.specs.Scoped.{typed}
use Rattle.reo_rules_types.proofs.Kept.{keeps_both}
use Rattle.reo_rules_types.proofs.Scoped.{known_kept, typed_kept}
use Rattle.reo_rules_types.proofs.range.parameters_range.Goals as goal

pub type_range-requires : goal.type_range-requires
type_range-requires c = known_kept c.args.types.now c.loop-parameter.types c.loop-parameter.invariant.0 c.args.declared.now c.requires

pub returns-in_err-type_range-clause-judged : goal.returns-in_err-type_range-clause-judged
returns-in_err-type_range-clause-judged c =
    let old = c.args.types.now in
    let p = c.parameter-item.result in
    let fault = c.in_err-type_range.field-0.0 in
    let same = typed_kept old c.loop-parameter.types c.loop-parameter.invariant.0 c.args.declared.now c.requires in
    judged_err c.from_residual.result fault _ c.from_residual.ensures
    (flat_first (λ (q : Parameter). range_in_type (typed old c.args.declared.now) q.term) c.args.parameters.now c.loop-parameter.parameter-index p fault c.loop-parameter-test.true c.parameter-item.is c.loop-parameter.invariant.1
    (subst (λ known. IsFirst (range_in_type known p.term) fault) same c.in_err-type_range.ensures.judged))

pub loop-parameter-preserved : goal.loop-parameter-preserved
loop-parameter-preserved c =
    let old = c.args.types.now in
    let p = c.parameter-item.result in
    let keeps = c.loop-parameter.invariant.0 in
    let same = typed_kept old c.loop-parameter.types keeps c.args.declared.now c.requires in (
      keeps_both old c.loop-parameter.types c.type_range.new.types keeps c.in_ok-type_range.ensures.keeps,
      flat_more (λ (q : Parameter). range_in_type (typed old c.args.declared.now) q.term) c.args.parameters.now c.loop-parameter.parameter-index p c.loop-parameter-test.true c.parameter-item.is c.loop-parameter.invariant.1
          (ap (λ known. range_in_type known p.term) (sym same) ∙ c.in_ok-type_range.ensures.judged),
    )
