use Rattle.reo_net_laws.proofs.state_laws.Keyed.{one_key}
use Rattle.reo_net_laws.proofs.state_laws.states.one_key_same_tables.Goals as goal

pub returns : goal.returns
returns c = one_key
