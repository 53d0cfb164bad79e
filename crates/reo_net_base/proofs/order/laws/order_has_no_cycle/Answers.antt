use Rattle.reo_net_base.proofs.order.WalkLemmas.{order_no_cycle}
use Rattle.reo_net_base.proofs.order.laws.order_has_no_cycle.Goals as goal

pub returns : goal.returns
returns c = order_no_cycle
