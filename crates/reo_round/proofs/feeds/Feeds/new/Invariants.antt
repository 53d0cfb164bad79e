use Rattle.reo_net_base.specs.Net.{net_of}
use Rattle.reo_round.proofs.FeedLemmas.{AreFeedsTo}
use Rattle.reo_round.proofs.feeds.Feeds.new.Given as goal

-- The joints so far have their codes.
abbrev pub invariant-loop-joint : goal.invariant-loop-joint
invariant-loop-joint g l = AreFeedsTo (net_of g.P.Primitive.behaviour l.circuit) l.joint l.codes
