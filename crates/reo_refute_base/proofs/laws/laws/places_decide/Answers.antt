use Rattle.reo_refute_base.proofs.laws.Deciding.{places_decide}
use Rattle.reo_refute_base.proofs.laws.laws.places_decide.Goals as goal

pub returns : goal.returns
returns c = places_decide
