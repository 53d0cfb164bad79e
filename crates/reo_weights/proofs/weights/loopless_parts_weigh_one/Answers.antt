use Rattle.reo_weights.proofs.WeightLemmas.{loopless}
use Rattle.reo_weights.proofs.weights.loopless_parts_weigh_one.Goals as goal

pub returns : goal.returns
returns c = loopless
