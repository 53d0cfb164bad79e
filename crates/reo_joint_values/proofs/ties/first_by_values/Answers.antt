use Rattle.reo_joint_values.proofs.Choosing.{first_by_values}
use Rattle.reo_joint_values.proofs.ties.first_by_values.Goals as goal

pub returns : goal.returns
returns c = first_by_values
