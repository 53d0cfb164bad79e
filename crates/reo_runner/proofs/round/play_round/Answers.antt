use Rattle.std.proofs.Common.{◌≡◌, ◌∙◌, ◌+◌, ℕ, List, refl, sym, ap, subst, arith, rules}
use Rattle.reo_io.specs.Sinks.{Appended, TookPart}
use Rattle.reo_net_base.specs.Net.{Net, Wiring, net_of}
use Rattle.reo_net_base.specs.Step.{stepped}
use Rattle.reo_trace.specs.declared.line.RoundLine.{RoundLine}
use Rattle.reo_trace.specs.Entries.{line_for}
use Rattle.reo_trace.specs.RoundText.{round_text}
use Rattle.reo_rounds.specs.Rules.{rules_of}
use Rattle.reo_rounds.specs.declared.plan.Plan.{Plan}
use Rattle.reo_runner.specs.at_ports.Engines.{MadeRound}
use Rattle.reo_runs.specs.Round.{State, advanced}
use Rattle.reo_runs.proofs.at_ports.AfterRound.{over_by}
use Rattle.reo_runner.proofs.RoundLemmas.{plan_of, round_planned, stood_plan, tallied_by}
use Rattle.reo_runner.proofs.round.play_round.Goals as goal

pub returns-in-Ok-clause-made : goal.returns-in-Ok-clause-made
returns-in-Ok-clause-made g c = λ w left.
    let r = rules_of g.P.Primitive.behaviour g.P.Primitive.settled g.P.Ported.port_state g.P.Ported.placed g.P.Ported.withdrawn in
    let a : State g.row.P.Denot = record { circuit = w; players = c.args.players.now } in
    let v : Wiring g.row.P.Denot = c.make_next.new.engine.circuit in
    let net : Net = net_of g.P.Primitive.behaviour v in
    let kept = c.in_ok-made.ensures.circuit in
    let s : MadeRound = c.in_ok-made.made.0 in
    let turn : ℕ = c.args.engine.now.rounds + 1 in
    let same = c.offer_all.ensures.rounds in
    let stood = rw (sym kept) at (rw same at c.in_ok-made.ensures.exact) in
    let started = rw (sym kept) at (c.in_ok-offer_all.ensures.ready w left) in
    let counted = c.in_ok-made.ensures.rounds ∙ same in
    let plan : Plan = plan_of net s in
    let is = stood_plan c.args.limits.budget net v.ports turn s stood in
    let line : RoundLine = line_for net turn s.colouring.rows s.line.moves in
    let text : c.as_slice.result.now ≡ round_text c.args.ports.now.list line = c.as_slice.ensures ∙ (rw (sym kept) at (rw same at c.in_ok-made.ensures.text)) in
    record {
      line = line;
      next = record { circuit = record v { primitives = stepped g.P.Primitive.behaviour g.P.Primitive.settled v plan.colouring.rows plan.colouring.items }; players = c.count_out.new.players };
      round = round_planned r c.args.limits.budget c.args.limits.rounds turn a v plan line c.count_out.new.players started (omega (arith, c.requires.goes_on)) is refl (rw c.hand_back.ensures at c.count_out.ensures.players);
      text = rw text at c.in-Ok.ensures.ok;
      tallied = tallied_by net turn plan _ line _ _ refl c.count_out.ensures.tallied;
      over = rw counted at (rw c.hand_back.ensures at c.count_out.ensures.over) ∙ over_by _ turn _ plan line c.args.players.now c.count_out.new.players is.shows refl;
      circuit = (rw c.hand_back.ensures at c.count_out.ensures.circuit);
      players_are = refl;
    }

pub returns-in-Err-clause-fault : goal.returns-in-Err-clause-fault
returns-in-Err-clause-fault g c = λ w left.
    let r = rules_of g.P.Primitive.behaviour g.P.Primitive.settled g.P.Ported.port_state g.P.Ported.placed g.P.Ported.withdrawn in
    let a : State g.row.P.Denot = record { circuit = w; players = c.args.players.now } in
    let v : Wiring g.row.P.Denot = c.make_next.new.engine.circuit in
    let net : Net = net_of g.P.Primitive.behaviour v in
    let kept = c.in_ok-made.ensures.circuit in
    let s : MadeRound = c.in_ok-made.made.0 in
    let turn : ℕ = c.args.engine.now.rounds + 1 in
    let same = c.offer_all.ensures.rounds in
    let stood = rw (sym kept) at (rw same at c.in_ok-made.ensures.exact) in
    let started = rw (sym kept) at (c.in_ok-offer_all.ensures.ready w left) in
    let counted = c.in_ok-made.ensures.rounds ∙ same in
    let plan : Plan = plan_of net s in
    let is = stood_plan c.args.limits.budget net v.ports turn s stood in
    let line : RoundLine = line_for net turn s.colouring.rows s.line.moves in
    let text : c.as_slice.result.now ≡ round_text c.args.ports.now.list line = c.as_slice.ensures ∙ (rw (sym kept) at (rw same at c.in_ok-made.ensures.text)) in
    let next = advanced net plan.colouring.rows c.args.players.now in
    record {
      line = line;
      next = record { circuit = record v { primitives = stepped g.P.Primitive.behaviour g.P.Primitive.settled v plan.colouring.rows plan.colouring.items }; players = next };
      round = round_planned r c.args.limits.budget c.args.limits.rounds turn a v plan line next started (omega (arith, c.requires.goes_on)) is refl refl;
      part = rw text at c.in-Err.ensures.failed;
    }
