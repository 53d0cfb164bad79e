-- A component goes on, and takes its offer back where it gave up.
use Rattle.std.proofs.Common.{◌∙◌, List, map, None, refl, sym, ap, subst, arith}
use Rattle.std.specs.Option.{IsSome}
use Rattle.reo_net_base.specs.Net.{Wiring}
use Rattle.reo_net_base.specs.PortState.{PortState}
use Rattle.reo_rounds.specs.Rules.{Rules, rules_of}
use Rattle.reo_players.specs.Players.{Player, player_of, after, step_of}
use Rattle.reo_runs.specs.at_ports.Parts.{HasGoneOn, IsLeft}
use Rattle.reo_runs.proofs.at_ports.AtPorts.{in_range, ports_stay, fit_on}
use Rattle.reo_runs.proofs.at_ports.Kept.{withdrawn_but}
use Rattle.reo_runs.proofs.at_ports.GoneOn.{gave_up, left_taken, left_on}
use Rattle.reo_runs.proofs.at_ports.advancing.advance.Goals as goal

pub take_back-requires : goal.take_back-requires
take_back-requires g c =
    let states : List PortState = map g.P.Ported.port_state (g.S.Stage.circuit c.args.stage.now).primitives in
    let p : Player = player_of c.args.players.now c.args.component in
    let up = gave_up states p c.is_gone-flowed.result c.advance.result c.in-GaveUp.port c.requires.offer c.is_gone-flowed.ensures c.advance.ensures.step_is c.in-GaveUp.is in
    let lt = in_range c.args.ports.now.list (g.S.Stage.circuit c.args.stage.now).ports c.args.players.now states c.args.component c.in-GaveUp.port up.offer c.requires.at_ports c.requires.there up.offers in
    (omega (arith, c.requires.at_ports.count_is), subst IsSome (sym up.pending) refl)

pub returns-in-GaveUp-clause-players : goal.returns-in-GaveUp-clause-players
returns-in-GaveUp-clause-players g c = record {
  count = c.advance.ensures.count;
  here = c.advance.ensures.here ∙ ap (λ b. after b (player_of c.args.players.now c.args.component)) c.is_gone-flowed.ensures;
  others = c.advance.ensures.others;
}

pub returns-in-GaveUp-clause-at_ports : goal.returns-in-GaveUp-clause-at_ports
returns-in-GaveUp-clause-at_ports g c =
    let states : List PortState = map g.P.Ported.port_state (g.S.Stage.circuit c.args.stage.now).primitives in
    let on = returns-in-GaveUp-clause-players g c in
    record {
      count_is = ap (λ (w : Wiring g.row.P.Denot). w.ports) c.take_back.ensures.circuit ∙ c.requires.at_ports.count_is;
      ports_are = ports_stay c.args.ports.now.list states (map g.P.Ported.port_state (g.S.Stage.circuit c.take_back.new.self).primitives) c.in-GaveUp.port None c.take_back.ensures.offers c.requires.at_ports.ports_are;
      fit = fit_on c.args.ports.now.list c.args.component states c.args.players.now c.advance.new.self on c.requires.at_ports.fit;
    }

pub returns-in-GaveUp-clause-offers : goal.returns-in-GaveUp-clause-offers
returns-in-GaveUp-clause-offers g c =
    let states : List PortState = map g.P.Ported.port_state (g.S.Stage.circuit c.args.stage.now).primitives in
    let p : Player = player_of c.args.players.now c.args.component in
    let up = gave_up states p c.is_gone-flowed.result c.advance.result c.in-GaveUp.port c.requires.offer c.is_gone-flowed.ensures c.advance.ensures.step_is c.in-GaveUp.is in
    let on = returns-in-GaveUp-clause-players g c in
    let later : List PortState = map g.P.Ported.port_state (g.S.Stage.circuit c.take_back.new.self).primitives in
    subst (λ (q : Player). IsLeft p q states later) (sym on.here) (left_taken states later p c.in-GaveUp.port up c.take_back.ensures.offers)

pub returns-in-GaveUp-clause-circuit : goal.returns-in-GaveUp-clause-circuit
returns-in-GaveUp-clause-circuit g c = λ w but were.
    let states : List PortState = map g.P.Ported.port_state (g.S.Stage.circuit c.args.stage.now).primitives in
    let p : Player = player_of c.args.players.now c.args.component in
    let r : Rules g.row.P.Denot = rules_of g.P.Primitive.behaviour g.P.Primitive.settled g.P.Ported.port_state g.P.Ported.placed g.P.Ported.withdrawn in
    let up = gave_up states p c.is_gone-flowed.result c.advance.result c.in-GaveUp.port c.requires.offer c.is_gone-flowed.ensures c.advance.ensures.step_is c.in-GaveUp.is in
    let lt = in_range c.args.ports.now.list (g.S.Stage.circuit c.args.stage.now).ports c.args.players.now states c.args.component c.in-GaveUp.port up.offer c.requires.at_ports c.requires.there up.offers in
    withdrawn_but r g.met.P.Restoring.placed_again w (g.S.Stage.circuit c.args.stage.now) (g.S.Stage.circuit c.take_back.new.self) c.in-GaveUp.port up.offer (omega (arith, c.requires.at_ports.count_is)) but c.take_back.ensures.circuit
    up.pending (were c.in-GaveUp.port up.offer up.pending) c.take_back.ensures.offers

pub returns-in_default : goal.returns-in_default
returns-in_default g c =
    let states : List PortState = map g.P.Ported.port_state (g.S.Stage.circuit c.args.stage.now).primitives in
    let p : Player = player_of c.args.players.now c.args.component in
    let on : HasGoneOn c.args.component states c.args.players.now c.advance.new.self = record {
      count = c.advance.ensures.count;
      here = c.advance.ensures.here ∙ ap (λ b. after b p) c.is_gone-flowed.ensures;
      others = c.advance.ensures.others;
    } in
    record {
      players = on;
      at_ports = record {
        count_is = c.requires.at_ports.count_is;
        ports_are = c.requires.at_ports.ports_are;
        fit = fit_on c.args.ports.now.list c.args.component states c.args.players.now c.advance.new.self on c.requires.at_ports.fit;
      };
      offers = subst (λ (q : Player). IsLeft p q states states) (sym on.here) (left_on states p c.requires.offer (λ q step. c.in_default.not-GaveUp q (c.advance.ensures.step_is ∙ ap (λ b. step_of b p) c.is_gone-flowed.ensures ∙ step)));
      circuit = λ w but were. but;
      rounds = refl;
    }
