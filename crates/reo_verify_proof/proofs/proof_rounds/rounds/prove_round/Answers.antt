use Rattle.std.proofs.Common.{◌≡◌, ◌∙◌, ◌+◌, ℕ, List, ap, subst}
use Rattle.reo_net_base.specs.Net.{Wiring, net_of}
use Rattle.reo_rounds.specs.Rules.{rules_of}
use Rattle.reo_rounds.specs.declared.plan.Plan.{Plan}
use Rattle.reo_runs.specs.Round.{State}
use Rattle.reo_refute_base.specs.faults.Faults.{IsProof, IsProofFault}
use Rattle.reo_verify.specs.judging.Judged.{IsPlanShown}
use Rattle.reo_verify_proof.proofs.proof_rounds.RoundLemmas.{round_proven, refused_by}
use Rattle.reo_verify_proof.proofs.proof_rounds.rounds.prove_round.Goals as goal

pub carry_out-carried-requires-clause-suits : goal.carry_out-carried-requires-clause-suits
carry_out-carried-requires-clause-suits g c =
    let shown = subst (λ (x : Wiring g.row.P.Denot). IsPlanShown (net_of g.P.Primitive.behaviour x) x.ports c.args.line.now c.in-Ok.plan) c.circuit-circuit.ensures c.in-Ok.ensures in
    shown.suits

pub returns-in-Err-check_proof-clause-wrong : goal.returns-in-Err-check_proof-clause-wrong
returns-in-Err-check_proof-clause-wrong g c = λ w left.
    let r = rules_of g.P.Primitive.behaviour g.P.Primitive.settled g.P.Ported.port_state g.P.Ported.placed g.P.Ported.withdrawn in
    let a : State g.row.P.Denot = record { circuit = w; players = c.args.players.now } in
    let v : Wiring g.row.P.Denot = c.offer_all.new.stage.circuit in
    let plan : Plan = c.in-Ok.plan in
    let turn : ℕ = c.args.stage.now.rounds + 1 in
    let turn_is : c.rounds-turn.result + 1 ≡ turn = ap (λ (n : ℕ). n + 1) (c.rounds-turn.ensures ∙ c.offer_all.ensures.rounds) in
    let shown = subst (λ (x : Wiring g.row.P.Denot). IsPlanShown (net_of g.P.Primitive.behaviour x) x.ports c.args.line.now plan) c.circuit-circuit.ensures c.in-Ok.ensures in
    let why : IsProofFault (net_of g.P.Primitive.behaviour v) turn plan.colouring.rows c.args.log.now c.in-Err-check_proof.fault =
    subst (λ (x : Wiring g.row.P.Denot). IsProofFault (net_of g.P.Primitive.behaviour x) turn plan.colouring.rows c.args.log.now c.in-Err-check_proof.fault) c.circuit-circuit.ensures
    (subst (λ (n : ℕ). IsProofFault (net_of g.P.Primitive.behaviour c.circuit-circuit.result.now) n plan.colouring.rows c.args.log.now c.in-Err-check_proof.fault) turn_is
    (subst (λ (rows : List ℕ). IsProofFault (net_of g.P.Primitive.behaviour c.circuit-circuit.result.now) (c.rounds-turn.result + 1) rows c.args.log.now c.in-Err-check_proof.fault) c.as_slice-rows.ensures c.in-Err-check_proof.ensures.exact)) in
    refused_by r turn a v plan c.args.line.now (c.in_ok-offer_all.ensures.ready w left) c.requires.number shown c.args.log.now c.in-Err-check_proof.fault why

pub returns-in-Ok-check_proof-clause-made : goal.returns-in-Ok-check_proof-clause-made
returns-in-Ok-check_proof-clause-made g c = λ w left.
    let r = rules_of g.P.Primitive.behaviour g.P.Primitive.settled g.P.Ported.port_state g.P.Ported.placed g.P.Ported.withdrawn in
    let a : State g.row.P.Denot = record { circuit = w; players = c.args.players.now } in
    let v : Wiring g.row.P.Denot = c.offer_all.new.stage.circuit in
    let plan : Plan = c.in-Ok.plan in
    let turn : ℕ = c.args.stage.now.rounds + 1 in
    let same = c.offer_all.ensures.rounds in
    let turn_is : c.rounds-turn.result + 1 ≡ turn = ap (λ (n : ℕ). n + 1) (c.rounds-turn.ensures ∙ same) in
    let shown = subst (λ (x : Wiring g.row.P.Denot). IsPlanShown (net_of g.P.Primitive.behaviour x) x.ports c.args.line.now plan) c.circuit-circuit.ensures c.in-Ok.ensures in
    let proof : IsProof (net_of g.P.Primitive.behaviour v) turn plan.colouring.rows c.args.log.now =
    subst (λ (x : Wiring g.row.P.Denot). IsProof (net_of g.P.Primitive.behaviour x) turn plan.colouring.rows c.args.log.now) c.circuit-circuit.ensures
    (subst (λ (n : ℕ). IsProof (net_of g.P.Primitive.behaviour c.circuit-circuit.result.now) n plan.colouring.rows c.args.log.now) turn_is
    (subst (λ (rows : List ℕ). IsProof (net_of g.P.Primitive.behaviour c.circuit-circuit.result.now) (c.rounds-turn.result + 1) rows c.args.log.now) c.as_slice-rows.ensures c.in-Ok-check_proof.ensures.exact)) in
    round_proven r turn a v plan c.args.line.now (c.in_ok-offer_all.ensures.ready w left) c.requires.number shown c.args.log.now c.carry_out-carried.new.stage.circuit c.carry_out-carried.new.players c.carry_out-carried.result.over proof
    c.carry_out-carried.ensures.players c.carry_out-carried.ensures.circuit (rw same at c.carry_out-carried.ensures.over)
