use Rattle.reo_refute_base.proofs.measure.Lessening.{splits_lessen}
use Rattle.reo_refute_base.proofs.measure.laws.splits_lessen.Goals as goal

pub returns : goal.returns
returns c = splits_lessen
