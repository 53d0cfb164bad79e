use Rattle.reo_joint_values.proofs.StandLemmas.{possible_closed}
use Rattle.reo_joint_values.proofs.standing.possible_items_are_closed.Goals as goal

pub returns : goal.returns
returns c = possible_closed
