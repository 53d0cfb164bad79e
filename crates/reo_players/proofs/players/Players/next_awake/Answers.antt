use Rattle.std.proofs.Common.{◌∙◌, ap, sym}
use Rattle.reo_players.specs.declared.marks.Paces.{Paces}
use Rattle.reo_players.specs.Pacing.{clock_at, each_shown}
use Rattle.reo_players.proofs.Marked.{awake_is}
use Rattle.reo_players.proofs.Paces.{marks-shown}
use Rattle.reo_players.proofs.players.Players.next_awake.Goals as goal

pub returns : goal.returns
returns c =
    let p = c.self.inside in
    let clock = clock_at p.clock p.passed in
    rw (← c.self.view_is)
    (awake_is (each_shown clock p.players) p.marks.awake c.next_set.result c.args.from
    (ap (λ (m : Paces). m.awake) (c.self.invariant.marks_are ∙ sym (marks-shown clock p.players))) c.next_set.ensures)
