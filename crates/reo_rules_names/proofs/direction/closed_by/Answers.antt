use Rattle.std.proofs.Common.{subst}
use Rattle.std.proofs.lemmas.List.{take_all}
use Rattle.reo_rules_names.specs.Closed.{AreClosed}
use Rattle.reo_rules_names.proofs.direction.closed_by.Goals as goal

pub returns : goal.returns
returns c =
    subst (λ ps. AreClosed ps c.loop-parameter.closed) (take_all c.loop-parameter.parameter-index c.args.parameters.now c.loop-parameter-test.false) c.loop-parameter.invariant
