use Rattle.reo_joint_values.proofs.Assigning.{choices_are_assignments}
use Rattle.reo_joint_values.proofs.ties.choices_are_assignments.Goals as goal

pub returns : goal.returns
returns c = choices_are_assignments
