use Rattle.reo_weights.proofs.WeightLemmas.{one_weight}
use Rattle.reo_weights.proofs.weights.weight_is_one.Goals as goal

pub returns : goal.returns
returns c = one_weight
