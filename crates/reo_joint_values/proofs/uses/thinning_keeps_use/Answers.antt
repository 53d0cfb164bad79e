use Rattle.reo_joint_values.proofs.Narrowing.{used_still, used_before}
use Rattle.reo_joint_values.proofs.uses.thinning_keeps_use.Goals as goal

pub returns : goal.returns
returns c = λ net names side old now thin j v. (used_still net names side old now thin j v, used_before net names side old now thin j v)
