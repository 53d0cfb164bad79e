use Rattle.reo_item_bounds.proofs.Within.{within}
use Rattle.reo_item_bounds.proofs.laws.bounded_parts_stay_within.Goals as goal

pub returns : goal.returns
returns c = within
