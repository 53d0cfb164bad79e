use Rattle.reo_refute_base.proofs.measure.Lessening.{drops_lessen}
use Rattle.reo_refute_base.proofs.measure.laws.drops_lessen.Goals as goal

pub returns : goal.returns
returns c = drops_lessen
