use Rattle.std.proofs.Common.{◌≡◌, ◌∙◌, ◌≤◌, ◌+◌, ℕ, sym, subst, rules}
use Rattle.reo_net_base.specs.Net.{Wiring, net_of}
use Rattle.reo_players.specs.Offers.{offer_for}
use Rattle.reo_rounds.specs.declared.plan.PlannedRound.{PlannedRound}
use Rattle.reo_rounds.specs.Plans.{IsPlannedRound}
use Rattle.reo_rounds.specs.Ready.{ready}
use Rattle.reo_rounds.specs.Rules.{rules_of}
use Rattle.reo_runs.specs.Round.{State}
use Rattle.reo_proving.proofs.RoundLemmas.{same_circuit, same_rounds, made_with, cut_with}
use Rattle.reo_proving.proofs.RunLemmas.{same_fault}
use Rattle.reo_proving.proofs.round.log_next.Goals as goal

pub returns-in_err-over-in-Ok-clause-failed : goal.returns-in_err-over-in-Ok-clause-failed
returns-in_err-over-in-Ok-clause-failed g c = λ w left failed.
    let r = rules_of g.P.Primitive.behaviour g.P.Primitive.settled g.P.Ported.port_state g.P.Ported.placed g.P.Ported.withdrawn in
    let a : State g.row.P.Denot = record { circuit = w; players = c.args.players.now } in
    let turn : ℕ = c.args.engine.now.rounds + 1 in
    let u : Wiring g.row.P.Denot = c.offer_all.new.stage.circuit in
    let v : Wiring g.row.P.Denot = c.plan_round.new.self.circuit in
    let p : PlannedRound = c.in-Ok.planned in
    let kept : v ≡ u = same_circuit c.plan_round.new.self c.offer_all.new.stage c.in-Ok.ensures.stays in
    let made : c.plan_round.new.self.rounds ≡ c.args.engine.now.rounds = same_rounds c.plan_round.new.self c.offer_all.new.stage c.in-Ok.ensures.stays ∙ c.offer_all.ensures.rounds in
    let started : v ≡ ready r (offer_for c.args.players.now) w = kept ∙ c.in_ok-offer_all.ensures.ready w left in
    let within : turn ≤ c.args.limits.rounds = search rules in
    let planned : IsPlannedRound c.args.limits.budget (net_of g.P.Primitive.behaviour v) v.ports turn p =
    subst (λ (x : Wiring g.row.P.Denot). IsPlannedRound c.args.limits.budget (net_of g.P.Primitive.behaviour x) x.ports turn p) (sym kept)
    (subst (λ (n : ℕ). IsPlannedRound c.args.limits.budget (net_of g.P.Primitive.behaviour u) u.ports (n + 1) p) c.offer_all.ensures.rounds c.in-Ok.ensures.exact) in
    let fault = same_fault c.from_residual-in_err-over-in-Ok.result c.in_err-over-in-Ok.field-0.0 _ c.from_residual-in_err-over-in-Ok.ensures failed in
    cut_with r c.args.ports.now.list c.args.limits.budget c.args.limits.rounds turn a c.logs_are_lines.ensures v started within p planned
    (g.S.Sink.told c.args.out.now) (g.S.Sink.told c.log_round.new.out) (rw made at (c.in_err-over-in-Ok.ensures.failed fault))

pub returns-in_ok-over-in-Ok-clause-went : goal.returns-in_ok-over-in-Ok-clause-went
returns-in_ok-over-in-Ok-clause-went g c = λ w left.
    let r = rules_of g.P.Primitive.behaviour g.P.Primitive.settled g.P.Ported.port_state g.P.Ported.placed g.P.Ported.withdrawn in
    let a : State g.row.P.Denot = record { circuit = w; players = c.args.players.now } in
    let turn : ℕ = c.args.engine.now.rounds + 1 in
    let u : Wiring g.row.P.Denot = c.offer_all.new.stage.circuit in
    let v : Wiring g.row.P.Denot = c.plan_round.new.self.circuit in
    let p : PlannedRound = c.in-Ok.planned in
    let kept : v ≡ u = same_circuit c.plan_round.new.self c.offer_all.new.stage c.in-Ok.ensures.stays in
    let made : c.plan_round.new.self.rounds ≡ c.args.engine.now.rounds = same_rounds c.plan_round.new.self c.offer_all.new.stage c.in-Ok.ensures.stays ∙ c.offer_all.ensures.rounds in
    let started : v ≡ ready r (offer_for c.args.players.now) w = kept ∙ c.in_ok-offer_all.ensures.ready w left in
    let within : turn ≤ c.args.limits.rounds = search rules in
    let planned : IsPlannedRound c.args.limits.budget (net_of g.P.Primitive.behaviour v) v.ports turn p =
    subst (λ (x : Wiring g.row.P.Denot). IsPlannedRound c.args.limits.budget (net_of g.P.Primitive.behaviour x) x.ports turn p) (sym kept)
    (subst (λ (n : ℕ). IsPlannedRound c.args.limits.budget (net_of g.P.Primitive.behaviour u) u.ports (n + 1) p) c.offer_all.ensures.rounds c.in-Ok.ensures.exact) in
    made_with r c.args.ports.now.list c.args.limits.budget c.args.limits.rounds turn a c.logs_are_lines.ensures v started within p planned
    (g.S.Sink.told c.args.out.now) (g.S.Sink.told c.log_round.new.out) c.log_round.new.engine.circuit c.log_round.new.players c.in_ok-over-in-Ok.over
    (rw made at c.in_ok-over-in-Ok.ensures.ok) c.in_ok-over-in-Ok.ensures.players c.in_ok-over-in-Ok.ensures.circuit (rw made at c.in_ok-over-in-Ok.ensures.over)
