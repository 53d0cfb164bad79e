-- The first break of a parameter is the first of all.
use Rattle.reo_trees.specs.declared.programs.Parameter.{Parameter}
use Rattle.reo_rules.specs.Unknown.{unknown_in_type}
use Rattle.reo_rules_names.proofs.AfterLemmas.{judged_err, flat_first}
use Rattle.reo_rules_names.proofs.unknown.parameters_unknown.Goals as goal

pub returns-in_err-type_unknown : goal.returns-in_err-type_unknown
returns-in_err-type_unknown c =
    let fault = c.in_err-type_unknown.field-0.0 in
    judged_err c.from_residual.result fault _ c.from_residual.ensures
    (flat_first (λ (p : Parameter). unknown_in_type c.args.types.now p.term) c.args.parameters.now c.loop-parameter.parameter-index c.parameter-item.result fault c.loop-parameter-test.true c.parameter-item.is c.loop-parameter.invariant c.in_err-type_unknown.ensures)
