use Rattle.reo_support.proofs.Greatest.{forest_support}
use Rattle.reo_support.proofs.laws.forest_support.Goals as goal

pub returns : goal.returns
returns c = forest_support
