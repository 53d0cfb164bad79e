use Rattle.reo_item_bounds.proofs.Noting.{kept_bounds_stay}
use Rattle.reo_item_bounds.proofs.laws.kept_bounds_stay.Goals as goal

pub returns : goal.returns
returns c = kept_bounds_stay
