use Rattle.reo_players.proofs.Present.{done_is}
use Rattle.reo_players.proofs.player.Player.is_done.Goals as goal

pub returns : goal.returns
returns c =
    let p = c.self.inside in
    rw (← c.self.view_is) (done_is p.done p.actions p.counters.items c.self.invariant.2)
