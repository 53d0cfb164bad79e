use Rattle.reo_kinds_laws.proofs.Flowing.{flowing}
use Rattle.reo_kinds_laws.proofs.laws.ends_flow_while_they_can.Goals as goal

pub returns : goal.returns
returns c = flowing
