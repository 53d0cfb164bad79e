use Rattle.reo_weights.proofs.BoundLemmas.{few_stand}
use Rattle.reo_weights.proofs.bounds.few_items_stand.Goals as goal

pub returns : goal.returns
returns c = few_stand
