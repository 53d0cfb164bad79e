use Rattle.reo_weights.proofs.BoundWeights.{bounded_within}
use Rattle.reo_weights.proofs.bounds.bounded_parts_are_within.Goals as goal

pub returns : goal.returns
returns c = bounded_within
