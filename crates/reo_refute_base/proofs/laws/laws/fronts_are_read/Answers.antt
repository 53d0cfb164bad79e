use Rattle.reo_refute_base.proofs.laws.Fronts.{fronts_are_read}
use Rattle.reo_refute_base.proofs.laws.laws.fronts_are_read.Goals as goal

pub returns : goal.returns
returns c = fronts_are_read
