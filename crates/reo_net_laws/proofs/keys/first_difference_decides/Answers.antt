use Rattle.reo_net_laws.proofs.Differences.{first_difference}
use Rattle.reo_net_laws.proofs.keys.first_difference_decides.Goals as goal

pub returns : goal.returns
returns c = first_difference
