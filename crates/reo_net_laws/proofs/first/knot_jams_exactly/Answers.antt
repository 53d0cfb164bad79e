use Rattle.reo_net_laws.proofs.Flows.{knot_jams_exactly}
use Rattle.reo_net_laws.proofs.first.knot_jams_exactly.Goals as goal

pub returns : goal.returns
returns c = knot_jams_exactly
