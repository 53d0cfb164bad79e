use Rattle.std.proofs.Common.{◌≡◌, ◌+◌, ◌*◌, take}
use Rattle.reo_players.specs.Counters.{levels_of, levels_within}
use Rattle.reo_players.proofs.counter.+levels.Given as goal

abbrev pub invariant-levels-loop-action : goal.invariant-levels-loop-action
invariant-levels-loop-action l = l.most ≡ levels_of (take l.action-index l.actions)

abbrev pub decreases-levels_with : goal.decreases-levels_with
decreases-levels_with l = 2 * levels_within l.action.now + 1

abbrev pub decreases-levels : goal.decreases-levels
decreases-levels l = 2 * levels_of l.actions.now
