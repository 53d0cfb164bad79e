use Rattle.reo_settling.proofs.HeldTables.{lookups_stay}
use Rattle.reo_settling.proofs.laws.lookups_stay.Goals as goal

pub returns : goal.returns
returns c = lookups_stay
