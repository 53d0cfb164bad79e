use Rattle.reo_listing.proofs.answers.Answered.{listing_is_one}
use Rattle.reo_listing.proofs.answers.laws.one_listing.Goals as goal

pub returns : goal.returns
returns c = listing_is_one
