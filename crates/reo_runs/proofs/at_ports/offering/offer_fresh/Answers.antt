-- A component has no offer to make.
use Rattle.std.proofs.Common.{rules, map}
use Rattle.reo_players.specs.Players.{player_of}
use Rattle.reo_runs.specs.at_ports.Parts.{HasOffered}
use Rattle.reo_runs.proofs.at_ports.OffersMade.{pass_over}
use Rattle.reo_runs.proofs.at_ports.offering.offer_fresh.Goals as goal

pub returns-in-Rest-clause-offers : goal.returns-in-Rest-clause-offers
returns-in-Rest-clause-offers g c =
    let offered : HasOffered (player_of c.args.players.now c.args.component) = search rules in
    pass_over c.args.ports.now.list (g.S.Stage.circuit c.args.stage.now).ports c.args.component c.args.players.now (map g.P.Ported.port_state (g.S.Stage.circuit c.args.stage.now).primitives) offered c.requires.before

pub returns-in-Done-clause-offers : goal.returns-in-Done-clause-offers
returns-in-Done-clause-offers g c =
    let offered : HasOffered (player_of c.args.players.now c.args.component) = search rules in
    pass_over c.args.ports.now.list (g.S.Stage.circuit c.args.stage.now).ports c.args.component c.args.players.now (map g.P.Ported.port_state (g.S.Stage.circuit c.args.stage.now).primitives) offered c.requires.before
