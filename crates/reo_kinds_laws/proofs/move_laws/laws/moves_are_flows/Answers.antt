use Rattle.reo_kinds_laws.proofs.move_laws.Flows.{are_flows}
use Rattle.reo_kinds_laws.proofs.move_laws.laws.moves_are_flows.Goals as goal

pub returns : goal.returns
returns c = are_flows
