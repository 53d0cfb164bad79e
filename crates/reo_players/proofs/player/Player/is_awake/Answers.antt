-- Its bound tells.
use Rattle.std.proofs.Common.{◌∙◌, sym, ap}
use Rattle.reo_players.specs.Counters.{rest_left}
use Rattle.reo_players.proofs.Present.{present_task, done_asleep, awake_by, awake_is}
use Rattle.reo_players.proofs.player.Player.is_awake.Goals as goal

pub returns-then-self : goal.returns-then-self
returns-then-self c =
    let p = c.self.inside in
    rw (← c.self.view_is) (sym (done_asleep p.done p.actions p.counters.items p.seen c.if-self.true))

pub returns-in-None : goal.returns-in-None
returns-in-None c =
    let p = c.self.inside in
    let has = present_task p.done p.actions p.counters.items c.self.invariant.2 c.if-self.false in
    rw (← c.self.view_is)
    (sym (awake_is (rest_left p.done p.actions p.counters.items) has p.bound p.seen c.self.invariant.3 ∙ ap (λ o. awake_by o p.seen) c.in-None.is))

pub returns-in-Some : goal.returns-in-Some
returns-in-Some c =
    let p = c.self.inside in
    let has = present_task p.done p.actions p.counters.items c.self.invariant.2 c.if-self.false in
    rw (← c.self.view_is)
    (sym (awake_is (rest_left p.done p.actions p.counters.items) has p.bound p.seen c.self.invariant.3 ∙ ap (λ o. awake_by o p.seen) c.in-Some.is))
