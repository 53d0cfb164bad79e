use Rattle.reo_weights.proofs.still.WithinLemmas.{alike_weigh}
use Rattle.reo_weights.proofs.still.weighing.alike_parts_weigh_alike.Goals as goal

pub returns : goal.returns
returns c = alike_weigh
