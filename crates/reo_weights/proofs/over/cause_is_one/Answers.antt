use Rattle.reo_weights.proofs.CauseLemmas.{one_cause}
use Rattle.reo_weights.proofs.over.cause_is_one.Goals as goal

pub returns : goal.returns
returns c = one_cause
