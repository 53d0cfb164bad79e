-- All components go on.
use Rattle.std.proofs.Common.{◌∙◌, ◌+◌, ◌<◌, ◌≤◌, ℕ, List, length, map, refl, arith}
use Rattle.reo_net_base.specs.PortState.{PortState}
use Rattle.reo_rounds.specs.Rules.{Rules, rules_of}
use Rattle.reo_players.specs.Players.{Player}
use Rattle.reo_runs.proofs.at_ports.Kept.{self_but}
use Rattle.reo_runs.proofs.at_ports.AllGoOn.{first, may, next, pass_to, all_gone_on, all_between}
use Rattle.reo_runs.proofs.at_ports.advancing.advance_awake.Goals as goal

pub loop-component-init : goal.loop-component-init
loop-component-init g c =
    let states : List PortState = map g.P.Ported.port_state (g.S.Stage.circuit c.args.stage.now).primitives in
    let r : Rules g.row.P.Denot = rules_of g.P.Primitive.behaviour g.P.Primitive.settled g.P.Ported.port_state g.P.Ported.placed g.P.Ported.withdrawn in
    let ports = c.args.ports.now.list in
    let count : ℕ = (g.S.Stage.circuit c.args.stage.now).ports in
    let players : List Player = c.args.players.now in
    record {
      in_range = let have = c.pass_on-component.ensures.in_range in omega (arith, c.pass_on-component.ensures.are.count);
      on = pass_to ports count players players c.pass_on-component.new.self states states count c.requires.stepped c.requires.asleep 0 c.pass_on-component.result (omega arith)
          (first ports count players states c.requires.stepped) c.pass_on-component.ensures;
      circuit = self_but r g.met.P.Restoring.placed_again (g.S.Stage.circuit c.args.stage.now);
      rounds = refl;
    }

pub advance-requires-clause-offer : goal.advance-requires-clause-offer
advance-requires-clause-offer g c =
    let states : List PortState = map g.P.Ported.port_state (g.S.Stage.circuit c.args.stage.now).primitives in
    let now : List PortState = map g.P.Ported.port_state (g.S.Stage.circuit c.loop-component.stage).primitives in
    let on = c.loop-component.invariant.on in
    let lt : c.loop-component.component < length c.loop-component.players = omega arith in
    may c.args.ports.now.list (g.S.Stage.circuit c.loop-component.stage).ports c.loop-component.component c.args.players.now c.loop-component.players states now on lt (g.S.Stage.circuit c.args.stage.now).ports c.requires.stepped

pub loop-component-preserved : goal.loop-component-preserved
loop-component-preserved g c =
    let states : List PortState = map g.P.Ported.port_state (g.S.Stage.circuit c.args.stage.now).primitives in
    let now : List PortState = map g.P.Ported.port_state (g.S.Stage.circuit c.loop-component.stage).primitives in
    let later : List PortState = map g.P.Ported.port_state (g.S.Stage.circuit c.advance.new.stage).primitives in
    let ports = c.args.ports.now.list in
    let count : ℕ = (g.S.Stage.circuit c.advance.new.stage).ports in
    let newer : List Player = c.advance.new.players in
    let on = c.loop-component.invariant.on in
    let lt : c.loop-component.component < length c.loop-component.players = omega arith in
    let within : c.loop-component.component + 1 ≤ length newer = omega (arith, c.advance.ensures.players.count) in
    let more = next ports (g.S.Stage.circuit c.loop-component.stage).ports c.loop-component.component c.args.players.now c.loop-component.players states now on lt
    count newer later c.advance.ensures.at_ports c.advance.ensures.players c.advance.ensures.offers in
    record {
      in_range = let have = c.pass_on-component-in-loop-component.ensures.in_range in omega (arith, c.pass_on-component-in-loop-component.ensures.are.count);
      on = pass_to ports count c.args.players.now newer c.pass_on-component-in-loop-component.new.self states later (g.S.Stage.circuit c.args.stage.now).ports c.requires.stepped c.requires.asleep
          (c.loop-component.component + 1) c.pass_on-component-in-loop-component.result within more c.pass_on-component-in-loop-component.ensures;
      circuit = c.advance.ensures.circuit (g.S.Stage.circuit c.args.stage.now) c.loop-component.invariant.circuit on.were;
      rounds = c.advance.ensures.rounds ∙ c.loop-component.invariant.rounds;
    }

pub returns-clause-players : goal.returns-clause-players
returns-clause-players g c =
    let states : List PortState = map g.P.Ported.port_state (g.S.Stage.circuit c.args.stage.now).primitives in
    let now : List PortState = map g.P.Ported.port_state (g.S.Stage.circuit c.loop-component.stage).primitives in
    all_gone_on c.args.ports.now.list (g.S.Stage.circuit c.loop-component.stage).ports c.loop-component.component c.args.players.now c.loop-component.players states now c.loop-component.invariant.on (omega arith)

pub returns-clause-between : goal.returns-clause-between
returns-clause-between g c =
    let states : List PortState = map g.P.Ported.port_state (g.S.Stage.circuit c.args.stage.now).primitives in
    let now : List PortState = map g.P.Ported.port_state (g.S.Stage.circuit c.loop-component.stage).primitives in
    all_between c.args.ports.now.list (g.S.Stage.circuit c.loop-component.stage).ports c.loop-component.component c.args.players.now c.loop-component.players states now c.loop-component.invariant.on (omega arith)
