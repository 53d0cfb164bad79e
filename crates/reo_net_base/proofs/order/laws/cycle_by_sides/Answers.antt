use Rattle.reo_net_base.proofs.order.SideLemmas.{by_sides}
use Rattle.reo_net_base.proofs.order.laws.cycle_by_sides.Goals as goal

pub returns : goal.returns
returns c = by_sides
