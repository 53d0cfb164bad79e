use Rattle.reo_weights.proofs.FewerWeights.{fewer_weigh}
use Rattle.reo_weights.proofs.fewer.fewer_rows_weigh_no_more.Goals as goal

pub returns : goal.returns
returns c = fewer_weigh
