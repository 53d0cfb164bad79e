use Rattle.reo_net_laws.proofs.state_laws.Turning.{stays_one}
use Rattle.reo_net_laws.proofs.state_laws.turns.one_class_stays_one.Goals as goal

pub returns : goal.returns
returns c = stays_one
