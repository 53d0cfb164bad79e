use Rattle.reo_weights.proofs.WeightLemmas.{not_above}
use Rattle.reo_weights.proofs.weights.weight_is_small.Goals as goal

pub returns : goal.returns
returns c = not_above
