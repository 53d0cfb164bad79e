use Rattle.reo_kinds_laws.proofs.move_laws.Offers.{are_offers}
use Rattle.reo_kinds_laws.proofs.move_laws.laws.moves_are_offers.Goals as goal

pub returns : goal.returns
returns c = are_offers
