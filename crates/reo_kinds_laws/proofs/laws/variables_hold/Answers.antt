use Rattle.reo_kinds_laws.proofs.Keeping.{variables_held}
use Rattle.reo_kinds_laws.proofs.laws.variables_hold.Goals as goal

pub returns : goal.returns
returns c = variables_held
