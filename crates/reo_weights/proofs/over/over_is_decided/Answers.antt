use Rattle.reo_weights.proofs.ExistLemmas.{over_decided}
use Rattle.reo_weights.proofs.over.over_is_decided.Goals as goal

pub returns : goal.returns
returns c = over_decided
