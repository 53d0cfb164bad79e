use Rattle.std.proofs.Common.{◌∙◌, ◌+◌, ℕ, List, ap, sym, arith}
use Rattle.reo_net_base.specs.Net.{Wiring}
use Rattle.reo_rounds.specs.Rules.{rules_of}
use Rattle.reo_rounds.specs.declared.plan.Plan.{Plan}
use Rattle.reo_players.specs.Players.{Player}
use Rattle.reo_players.specs.Offers.{offer_for}
use Rattle.reo_rounds.specs.Ready.{ready}
use Rattle.reo_runs.specs.Round.{State}
use Rattle.reo_verify.specs.Seeing.{StandsBehind}
use Rattle.reo_verify.proofs.ReplayLemmas.{round_replayed}
use Rattle.reo_verify.proofs.replaying.replay_round.Goals as goal

pub returns-clause-made : goal.returns-clause-made
returns-clause-made g c = λ w left.
    let r = rules_of g.P.Primitive.behaviour g.P.Primitive.settled g.P.Ported.port_state g.P.Ported.placed g.P.Ported.withdrawn in
    let a : State g.row.P.Denot = record { circuit = w; players = c.args.players.now } in
    let v : Wiring g.row.P.Denot = c.offer_all.new.stage.circuit in
    let plan : Plan = c.in_ok-plan.plan in
    let turn : ℕ = c.args.stage.now.rounds + 1 in
    let same = c.offer_all.ensures.rounds in
    let here = c.circuit-circuit.ensures in
    let shown = rw here at c.in_ok-plan.ensures in
    round_replayed r turn a v _ plan c.args.line.now c.carry_out-carried.new.players _ (c.in_ok-offer_all.ensures.ready w left) c.requires.number shown c.carry_out-carried.ensures.players c.carry_out-carried.ensures.circuit (rw same at c.carry_out-carried.ensures.over)

pub returns-clause-seen : goal.returns-clause-seen
returns-clause-seen g c = λ first start before lines leads players left count seen.
    let r = rules_of g.P.Primitive.behaviour g.P.Primitive.settled g.P.Ported.port_state g.P.Ported.placed g.P.Ported.withdrawn in
    let here = c.circuit-circuit.ensures ∙ c.in_ok-offer_all.ensures.ready before.state.circuit left
    ∙ ap (λ (ps : List Player). ready r (offer_for ps) before.state.circuit) (sym players) in
    let behind : StandsBehind r start lines c.circuit-circuit.result.now = record { before = before; rounds = leads; circuit = here } in
    c.in_ok-see.ensures first start lines behind (omega (arith, c.requires.number, count)) seen
