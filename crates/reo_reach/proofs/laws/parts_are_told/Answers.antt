use Rattle.reo_reach.proofs.WidthLemmas.{parts_told}
use Rattle.reo_reach.proofs.laws.parts_are_told.Goals as goal

pub returns : goal.returns
returns c = parts_told
