use Rattle.reo_weights.proofs.BoundWeights.{at_most}
use Rattle.reo_weights.proofs.bounds.weight_is_at_most.Goals as goal

pub returns : goal.returns
returns c = at_most
