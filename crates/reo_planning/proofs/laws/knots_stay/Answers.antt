use Rattle.reo_planning.proofs.Shapes.{knots_stay}
use Rattle.reo_planning.proofs.laws.knots_stay.Goals as goal

pub returns : goal.returns
returns c = knots_stay
