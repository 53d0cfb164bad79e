-- The first break of one is the first of all.
use Rattle.reo_rules.specs.Dangling.{dangling_parameter}
use Rattle.reo_rules_names.proofs.AfterLemmas.{judged_err, flat_first, flat_more, flat_all}
use Rattle.reo_rules_names.proofs.dangling.parameters_dangling.Goals as goal

pub returns-in_err-parameter_dangling : goal.returns-in_err-parameter_dangling
returns-in_err-parameter_dangling c touches are =
    let fault = c.in_err-parameter_dangling.field-0.0 in
    judged_err c.from_residual.result fault _ c.from_residual.ensures
    (flat_first (dangling_parameter touches) c.args.parameters.now c.loop-parameter.parameter-index c.parameter-item.result fault c.loop-parameter-test.true c.parameter-item.is (c.loop-parameter.invariant touches are) (c.in_err-parameter_dangling.ensures touches are))

pub loop-parameter-preserved : goal.loop-parameter-preserved
loop-parameter-preserved c touches are =
    flat_more (dangling_parameter touches) c.args.parameters.now c.loop-parameter.parameter-index c.parameter-item.result c.loop-parameter-test.true c.parameter-item.is (c.loop-parameter.invariant touches are) (c.in_ok-parameter_dangling.ensures touches are)

pub returns : goal.returns
returns c touches are = flat_all (dangling_parameter touches) c.args.parameters.now c.loop-parameter.parameter-index c.loop-parameter-test.false (c.loop-parameter.invariant touches are)
