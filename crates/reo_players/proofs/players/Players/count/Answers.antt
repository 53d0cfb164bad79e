use Rattle.std.proofs.Common.{◌∙◌, sym}
use Rattle.reo_players.specs.Pacing.{clock_at}
use Rattle.reo_players.proofs.Paces.{length-shown}
use Rattle.reo_players.proofs.players.Players.count.Goals as goal

pub returns : goal.returns
returns c =
    let p = c.self.inside in
    rw (← c.self.view_is) (c.len.ensures ∙ sym (length-shown (clock_at p.clock p.passed) p.players))
