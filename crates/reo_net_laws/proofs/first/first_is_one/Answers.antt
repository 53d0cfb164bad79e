use Rattle.reo_net_laws.proofs.OneFirst.{one_first}
use Rattle.reo_net_laws.proofs.first.first_is_one.Goals as goal

pub returns : goal.returns
returns c = one_first
