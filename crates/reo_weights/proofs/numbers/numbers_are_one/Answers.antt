use Rattle.reo_weights.proofs.NumberLemmas.{one_numbering}
use Rattle.reo_weights.proofs.numbers.numbers_are_one.Goals as goal

pub returns : goal.returns
returns c = one_numbering
