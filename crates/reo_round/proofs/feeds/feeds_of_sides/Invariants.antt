use Rattle.reo_net_base.specs.Net.{net_of}
use Rattle.reo_round.specs.Feeds.{AreCodes}
use Rattle.reo_round.proofs.feeds.feeds_of_sides.Given as goal

-- The joints so far are noted.
abbrev pub invariant-loop-joint : goal.invariant-loop-joint
invariant-loop-joint g l = AreCodes (net_of g.P.Primitive.behaviour l.circuit) l.joint l.codes
