use Rattle.reo_net_laws.proofs.Reasons.{reasons_given}
use Rattle.reo_net_laws.proofs.colourings.reasons_are_given.Goals as goal

pub returns : goal.returns
returns c = reasons_given
