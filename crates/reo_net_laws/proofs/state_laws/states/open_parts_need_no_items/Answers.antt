use Rattle.reo_net_laws.proofs.state_laws.Open.{open_items}
use Rattle.reo_net_laws.proofs.state_laws.states.open_parts_need_no_items.Goals as goal

pub returns : goal.returns
returns c = open_items
