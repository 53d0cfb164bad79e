-- It stays at its action, or goes on from it.
use Rattle.std.proofs.Common.{rules, ◌≡◌, ◌∙◌, List, ℕ, false, drop, sym, ap}
use Rattle.reo_players.specs.Written.{Task}
use Rattle.reo_players.specs.Counters.{rest_left}
use Rattle.reo_players.specs.Players.{Player}
use Rattle.reo_players.proofs.Present.{present_task, stays, flows, flows_step}
use Rattle.reo_players.proofs.player.Player.advance.Goals as goal

pub returns-then-flowed-clause-player : goal.returns-then-flowed-clause-player
returns-then-flowed-clause-player c =
    let p = c.self.inside in
    let has = present_task p.done p.actions p.counters.items c.self.invariant.2 c.if-self.false in
    c.go_on.ensures ∙ (ap (λ (q : Player). record { rest = drop 1 q.rest; seen = 0 }) (sym c.self.view_is)
    ∙ rw (← c.self.view_is) (sym (flows (rest_left p.done p.actions p.counters.items) has c.args.flowed p.seen c.if-flowed.true)))

pub returns-then-flowed-clause-step : goal.returns-then-flowed-clause-step
returns-then-flowed-clause-step c =
    let p = c.self.inside in
    let has = present_task p.done p.actions p.counters.items c.self.invariant.2 c.if-self.false in
    rw (← c.self.view_is) (flows_step (rest_left p.done p.actions p.counters.items) has c.args.flowed p.seen c.if-flowed.true)

pub returns-then-not-runs_out-clause-player : goal.returns-then-not-runs_out-clause-player
returns-then-not-runs_out-clause-player c =
    let p = c.self.inside in
    let rest : List Task = rest_left p.done p.actions p.counters.items in
    let has = present_task p.done p.actions p.counters.items c.self.invariant.2 c.if-self.false in
    let on : c.runs_out.result ≡ false = search rules in
    rw (← c.self.view_is) (ap (λ (n : ℕ). record { rest = rest; seen = n }) c.one_more-self-inside.ensures
    ∙ sym (stays rest has c.args.flowed p.seen p.bound c.self.invariant.3 c.if-flowed.false (sym c.runs_out.ensures ∙ on)))
