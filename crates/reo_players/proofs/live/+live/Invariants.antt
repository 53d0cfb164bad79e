use Rattle.std.proofs.Common.{◌≡◌, flat_map}
use Rattle.reo_players.specs.Written.{written}
use Rattle.reo_players.specs.Counters.{AreLive}
use Rattle.reo_players.proofs.live.+live.Given as goal

abbrev pub invariant-live_of-loop-action : goal.invariant-live_of-loop-action
invariant-live_of-loop-action l = AreLive l.kept × (flat_map written l.kept ≡ flat_map written l.yielded)
