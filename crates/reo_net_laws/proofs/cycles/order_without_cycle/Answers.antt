use Rattle.reo_net_laws.proofs.Orders.{order_without_cycle}
use Rattle.reo_net_laws.proofs.cycles.order_without_cycle.Goals as goal

pub returns : goal.returns
returns c = order_without_cycle c.order_exists.ensures c.order_has_no_cycle.ensures
