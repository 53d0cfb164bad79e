use Rattle.reo_joint_values.proofs.Narrowing.{narrowed_whole}
use Rattle.reo_joint_values.proofs.uses.narrowed_is_greatest.Goals as goal

pub returns : goal.returns
returns c = narrowed_whole
