use Rattle.reo_kinds_laws.proofs.Running.{ran}
use Rattle.reo_kinds_laws.proofs.laws.first_in_first_out.Goals as goal

pub returns : goal.returns
returns c = ran
