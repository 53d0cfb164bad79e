use Rattle.std.proofs.Common.{length}
use Rattle.reo_players.proofs.counter.+standing.Given as goal

abbrev pub decreases-standing : goal.decreases-standing
decreases-standing l = length l.counters.now
