use Rattle.reo_weights.proofs.still.Rounds.{still_stay_first}
use Rattle.reo_weights.proofs.still.still.still_parts_stay_first.Goals as goal

pub returns : goal.returns
returns c = still_stay_first
