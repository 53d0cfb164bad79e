use Rattle.reo_weights.proofs.FewerWeights.{fewer_within}
use Rattle.reo_weights.proofs.fewer.fewer_rows_stay_within.Goals as goal

pub returns : goal.returns
returns c = fewer_within
