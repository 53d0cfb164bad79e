use Rattle.reo_joint_values.proofs.Choosing.{assignments_are_choices}
use Rattle.reo_joint_values.proofs.ties.assignments_are_choices.Goals as goal

pub returns : goal.returns
returns c = assignments_are_choices
