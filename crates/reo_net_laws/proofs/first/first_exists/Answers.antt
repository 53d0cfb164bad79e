use Rattle.reo_net_laws.proofs.Least.{first_exists}
use Rattle.reo_net_laws.proofs.first.first_exists.Goals as goal

pub returns : goal.returns
returns c = first_exists
