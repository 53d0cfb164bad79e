use Rattle.reo_joint_values.proofs.StandLemmas.{items_stand}
use Rattle.reo_joint_values.proofs.standing.items_can_stand.Goals as goal

pub returns : goal.returns
returns c = items_stand c.order_exists.ensures
