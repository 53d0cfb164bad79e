use Rattle.std.proofs.Common.{◌+◌, ◌-◌, ◌*◌, length}
use Rattle.reo_listing.proofs.rows.walking.+walking.Given as goal

abbrev pub decreases-extend : goal.decreases-extend
decreases-extend g l = 3 * (length l.ports.now - length l.front.now) + 1

abbrev pub decreases-say : goal.decreases-say
decreases-say g l = 3 * (length l.ports.now - length l.front.now)

abbrev pub decreases-follow : goal.decreases-follow
decreases-follow g l = 3 * (length l.ports.now - length l.front.now) + 2
