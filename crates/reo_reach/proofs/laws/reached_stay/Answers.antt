use Rattle.reo_reach.proofs.StayLemmas.{reached_stays}
use Rattle.reo_reach.proofs.laws.reached_stay.Goals as goal

pub returns : goal.returns
returns c = reached_stays
