use Rattle.reo_net_laws.proofs.Leading.{leading_first}
use Rattle.reo_net_laws.proofs.keys.leading_come_first.Goals as goal

pub returns : goal.returns
returns c = leading_first
