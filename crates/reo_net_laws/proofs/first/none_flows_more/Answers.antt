use Rattle.reo_net_laws.proofs.Flows.{none_more}
use Rattle.reo_net_laws.proofs.first.none_flows_more.Goals as goal

pub returns : goal.returns
returns c = none_more
