use Rattle.reo_weights.proofs.ExistLemmas.{weight_exists}
use Rattle.reo_weights.proofs.weights.weight_exists.Goals as goal

pub returns : goal.returns
returns c = weight_exists
