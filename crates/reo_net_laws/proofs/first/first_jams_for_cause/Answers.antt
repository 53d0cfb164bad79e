use Rattle.reo_net_laws.proofs.Flows.{first_jams}
use Rattle.reo_net_laws.proofs.first.first_jams_for_cause.Goals as goal

pub returns : goal.returns
returns c = first_jams
