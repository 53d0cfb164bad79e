use Rattle.reo_support.proofs.Existence.{full_sets_stand}
use Rattle.reo_support.proofs.laws.full_sets_stand.Goals as goal

pub returns : goal.returns
returns c = full_sets_stand
