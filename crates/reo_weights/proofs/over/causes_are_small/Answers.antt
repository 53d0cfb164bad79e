use Rattle.reo_weights.proofs.CauseLemmas.{small_numbers}
use Rattle.reo_weights.proofs.over.causes_are_small.Goals as goal

pub returns : goal.returns
returns c = small_numbers
