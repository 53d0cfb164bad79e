-- The first name that is missing is the first of all.
use Rattle.reo_rules.specs.Unknown.{missing}
use Rattle.reo_rules_names.proofs.AfterLemmas.{judged_err, flat_first}
use Rattle.reo_rules_names.proofs.unknown.all_of.Goals as goal

pub returns-in_err-one_of : goal.returns-in_err-one_of
returns-in_err-one_of c =
    let fault = c.in_err-one_of.field-0.0 in
    judged_err c.from_residual.result fault _ c.from_residual.ensures
    (flat_first (missing c.args.names.now c.args.line) c.args.sought.now c.loop-name.name-index c.name-item.result fault c.loop-name-test.true c.name-item.is c.loop-name.invariant c.in_err-one_of.ensures)
