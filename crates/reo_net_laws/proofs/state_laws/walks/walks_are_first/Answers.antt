use Rattle.reo_net_laws.proofs.state_laws.Walking.{walk_first}
use Rattle.reo_net_laws.proofs.state_laws.walks.walks_are_first.Goals as goal

pub returns : goal.returns
returns c = walk_first
