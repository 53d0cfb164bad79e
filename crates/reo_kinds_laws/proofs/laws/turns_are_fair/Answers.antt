use Rattle.reo_kinds_laws.proofs.Fair.{fair}
use Rattle.reo_kinds_laws.proofs.laws.turns_are_fair.Goals as goal

pub returns : goal.returns
returns c = fair
