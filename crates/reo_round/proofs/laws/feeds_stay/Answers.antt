use Rattle.reo_round.proofs.FeedLemmas.{feeds_same}
use Rattle.reo_round.proofs.laws.feeds_stay.Goals as goal

pub returns : goal.returns
returns c = feeds_same
