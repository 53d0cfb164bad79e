use Rattle.reo_refute_base.proofs.laws.Telling.{live_places_are_told}
use Rattle.reo_refute_base.proofs.laws.laws.live_places_are_told.Goals as goal

pub returns : goal.returns
returns c = live_places_are_told
