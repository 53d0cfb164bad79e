use Rattle.reo_net_laws.proofs.state_laws.Turning.{no_later}
use Rattle.reo_net_laws.proofs.state_laws.turns.more_flow_is_no_later.Goals as goal

pub returns : goal.returns
returns c = no_later
