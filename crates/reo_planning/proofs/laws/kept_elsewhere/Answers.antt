use Rattle.reo_planning.proofs.Elsewhere.{kept_elsewhere}
use Rattle.reo_planning.proofs.laws.kept_elsewhere.Goals as goal

pub returns : goal.returns
returns c = kept_elsewhere
