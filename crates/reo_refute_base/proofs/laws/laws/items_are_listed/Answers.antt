use Rattle.reo_refute_base.proofs.laws.Standing.{items_are_listed}
use Rattle.reo_refute_base.proofs.laws.laws.items_are_listed.Goals as goal

pub returns : goal.returns
returns c = items_are_listed
