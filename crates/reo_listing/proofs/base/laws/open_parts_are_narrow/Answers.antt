use Rattle.reo_listing.proofs.base.Units.{narrow}
use Rattle.reo_listing.proofs.base.laws.open_parts_are_narrow.Goals as goal

pub returns : goal.returns
returns c = narrow
