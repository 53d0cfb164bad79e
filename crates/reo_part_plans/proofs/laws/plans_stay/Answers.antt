use Rattle.reo_part_plans.proofs.Recalled.{plans_stay}
use Rattle.reo_part_plans.proofs.laws.plans_stay.Goals as goal

pub returns : goal.returns
returns c = plans_stay
