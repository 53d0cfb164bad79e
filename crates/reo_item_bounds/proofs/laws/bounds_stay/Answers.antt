use Rattle.reo_item_bounds.proofs.Tables.{stay}
use Rattle.reo_item_bounds.proofs.laws.bounds_stay.Goals as goal

pub returns : goal.returns
returns c = stay
