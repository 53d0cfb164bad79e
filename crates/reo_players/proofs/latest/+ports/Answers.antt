use Rattle.std.proofs.Common.{arith}
use Rattle.reo_players.proofs.Stands.{levels_at, read_at}
use Rattle.reo_players.proofs.Passed.{within_levels}
use Rattle.reo_players.proofs.latest.+ports.Goals as goal

pub ports_of-ports_within-requires : goal.ports_of-ports_within-requires
ports_of-ports_within-requires t c =
    let xs = c.args.actions.now in
    let a = c.action-item.result in
    (omega (arith, levels_at xs c.loop-action.action-index a (read_at xs c.loop-action.action-index a c.loop-action-test.true c.action-item.is)), tt)

pub ports_within-ports_of-requires : goal.ports_within-ports_of-requires
ports_within-ports_of-requires t c =
    (omega (arith, within_levels c.args.action.now c.in-Repeat.times c.in-Repeat.body c.as_slice.result.now c.in-Repeat.is c.as_slice.ensures), tt)
