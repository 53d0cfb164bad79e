use Rattle.reo_listing.proofs.answers.Existing.{listing_exists}
use Rattle.reo_listing.proofs.answers.laws.listing_exists.Goals as goal

pub returns : goal.returns
returns c = listing_exists
