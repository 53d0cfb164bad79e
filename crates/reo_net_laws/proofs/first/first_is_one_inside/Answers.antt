use Rattle.reo_net_laws.proofs.OneFirst.{one_inside}
use Rattle.reo_net_laws.proofs.first.first_is_one_inside.Goals as goal

pub returns : goal.returns
returns c = one_inside
