use Rattle.reo_net_laws.proofs.Flows.{first_flows}
use Rattle.reo_net_laws.proofs.first.first_flows.Goals as goal

pub returns : goal.returns
returns c = first_flows
