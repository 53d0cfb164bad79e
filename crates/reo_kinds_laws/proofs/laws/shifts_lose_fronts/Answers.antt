use Rattle.reo_kinds_laws.proofs.Keeping.{shifts_kept}
use Rattle.reo_kinds_laws.proofs.laws.shifts_lose_fronts.Goals as goal

pub returns : goal.returns
returns c = shifts_kept
