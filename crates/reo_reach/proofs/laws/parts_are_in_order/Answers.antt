use Rattle.reo_reach.proofs.PartLemmas.{parts_in_order}
use Rattle.reo_reach.proofs.laws.parts_are_in_order.Goals as goal

pub returns : goal.returns
returns c = parts_in_order
