use Rattle.std.proofs.Common.{◌∙◌, ◌<◌, ◌-◌, length, ap, sym, arith}
use Rattle.std.specs.Prelude.{nat_eq}
use Rattle.reo_players.specs.Players.{Player, no_player}
use Rattle.reo_players.specs.Pacing.{clock_at, shown}
use Rattle.reo_players.proofs.Paces.{length-shown, at-shown, later_rest, later_fresh}
use Rattle.reo_players.proofs.players.Players.player.Goals as goal

pub at-requires : goal.at-requires
at-requires c =
    let p = c.self.inside in
    omega (arith, c.requires, ap length c.self.view_is, length-shown (clock_at p.clock p.passed) p.players)

pub returns-clause-rest : goal.returns-clause-rest
returns-clause-rest c =
    let p = c.self.inside in
    let clock = clock_at p.clock p.passed in
    let x = c.at.result.now in
    let lt : c.args.component < length p.players = omega (arith, c.requires, ap length c.self.view_is, length-shown clock p.players) in
    rw (← c.self.view_is)
    (sym (ap (λ (q : Player). q.rest) (at-shown clock p.players c.args.component no_player x lt ∙ ap (λ y. shown (clock c.args.component) y) (sym c.at.ensures))
    ∙ later_rest (clock c.args.component - x.as_of) x.player))

pub returns-clause-fresh : goal.returns-clause-fresh
returns-clause-fresh c =
    let p = c.self.inside in
    let clock = clock_at p.clock p.passed in
    let x = c.at.result.now in
    let lt : c.args.component < length p.players = omega (arith, c.requires, ap length c.self.view_is, length-shown clock p.players) in
    rw (← c.self.view_is)
    (sym (ap (λ (q : Player). nat_eq q.seen 0) (at-shown clock p.players c.args.component no_player x lt ∙ ap (λ y. shown (clock c.args.component) y) (sym c.at.ensures))
    ∙ later_fresh (clock c.args.component - x.as_of) x.player))
