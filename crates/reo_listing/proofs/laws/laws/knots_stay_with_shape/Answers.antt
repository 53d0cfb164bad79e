use Rattle.reo_listing.proofs.laws.KnotShapes.{knots_stay}
use Rattle.reo_listing.proofs.laws.laws.knots_stay_with_shape.Goals as goal

pub returns : goal.returns
returns c = knots_stay
