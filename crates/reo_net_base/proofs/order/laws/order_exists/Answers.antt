use Rattle.reo_net_base.proofs.order.ExistLemmas.{order_or_cycle}
use Rattle.reo_net_base.proofs.order.laws.order_exists.Goals as goal

pub returns : goal.returns
returns c = order_or_cycle
