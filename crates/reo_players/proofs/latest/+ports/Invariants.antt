use Rattle.std.proofs.Common.{◌+◌, ◌*◌}
use Rattle.reo_players.specs.Counters.{levels_of, levels_within}
use Rattle.reo_players.proofs.latest.+ports.Given as goal

abbrev pub decreases-ports_within : goal.decreases-ports_within
decreases-ports_within l = 2 * levels_within l.action.now + 1

abbrev pub decreases-ports_of : goal.decreases-ports_of
decreases-ports_of l = 2 * levels_of l.actions.now
