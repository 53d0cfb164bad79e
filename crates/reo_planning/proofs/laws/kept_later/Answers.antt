use Rattle.reo_planning.proofs.Elsewhere.{kept_later}
use Rattle.reo_planning.proofs.laws.kept_later.Goals as goal

pub returns : goal.returns
returns c = kept_later
