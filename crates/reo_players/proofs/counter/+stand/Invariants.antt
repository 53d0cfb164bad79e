use Rattle.std.proofs.Common.{◌+◌, ◌*◌}
use Rattle.reo_players.specs.Counters.{levels_of, levels_within}
use Rattle.reo_players.proofs.counter.+stand.Given as goal

abbrev pub decreases-stand_within : goal.decreases-stand_within
decreases-stand_within l = 2 * levels_within l.action.now + 1

abbrev pub decreases-stand_at : goal.decreases-stand_at
decreases-stand_at l = 2 * levels_of l.actions.now
