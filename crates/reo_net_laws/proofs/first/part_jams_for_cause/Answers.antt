use Rattle.reo_net_laws.proofs.Flows.{part_jams}
use Rattle.reo_net_laws.proofs.first.part_jams_for_cause.Goals as goal

pub returns : goal.returns
returns c = part_jams
