use Rattle.reo_joint_values.proofs.StandLemmas.{possible_least}
use Rattle.reo_joint_values.proofs.standing.possible_items_are_least.Goals as goal

pub returns : goal.returns
returns c = possible_least
