use Rattle.std.proofs.Common.{◌+◌, ◌*◌}
use Rattle.reo_players.specs.Counters.{levels_of, levels_within}
use Rattle.reo_players.proofs.counter.+pass.Given as goal

abbrev pub decreases-pass_within : goal.decreases-pass_within
decreases-pass_within l = 3 * levels_within l.action.now + 2

abbrev pub decreases-pass : goal.decreases-pass
decreases-pass l = 3 * levels_of l.actions.now

abbrev pub decreases-pass_body : goal.decreases-pass_body
decreases-pass_body l = 3 * levels_of l.body.now + 1
