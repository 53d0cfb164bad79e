use Rattle.reo_round.proofs.FeedLemmas.{feeds_one}
use Rattle.reo_round.proofs.laws.feeds_are_one.Goals as goal

pub returns : goal.returns
returns c = feeds_one
