use Rattle.reo_weights.proofs.CauseLemmas.{within_not_over}
use Rattle.reo_weights.proofs.over.within_is_not_over.Goals as goal

pub returns : goal.returns
returns c = within_not_over
