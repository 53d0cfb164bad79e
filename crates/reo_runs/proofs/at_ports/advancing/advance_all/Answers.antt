-- Those with moves are roused, and then all go on that are awake.
use Rattle.std.proofs.Common.{◌∙◌, List, map}
use Rattle.reo_net_base.specs.PortState.{PortState}
use Rattle.reo_runs.proofs.at_ports.Roused.{roused_stepped, none_skipped, roused_on}
use Rattle.reo_runs.proofs.at_ports.advancing.advance_all.Goals as goal

pub advance_awake-requires-clause-stepped : goal.advance_awake-requires-clause-stepped
advance_awake-requires-clause-stepped g c =
    let states : List PortState = map g.P.Ported.port_state (g.S.Stage.circuit c.args.stage.now).primitives in
    roused_stepped c.args.moves.now c.args.players.now c.rouse_all.new.players states c.rouse_all.ensures c.requires.moved c.args.ports.now.list (g.S.Stage.circuit c.args.stage.now).ports c.requires.stepped

pub advance_awake-requires-clause-asleep : goal.advance_awake-requires-clause-asleep
advance_awake-requires-clause-asleep g c =
    let states : List PortState = map g.P.Ported.port_state (g.S.Stage.circuit c.args.stage.now).primitives in
    none_skipped c.args.moves.now c.args.players.now c.rouse_all.new.players states c.rouse_all.ensures c.requires.moved c.args.ports.now.list (g.S.Stage.circuit c.args.stage.now).ports c.requires.stepped

pub returns-clause-players : goal.returns-clause-players
returns-clause-players g c =
    let states : List PortState = map g.P.Ported.port_state (g.S.Stage.circuit c.args.stage.now).primitives in
    c.advance_awake.ensures.players
    ∙ roused_on c.args.moves.now c.args.players.now c.rouse_all.new.players states c.rouse_all.ensures c.requires.moved c.args.ports.now.list (g.S.Stage.circuit c.args.stage.now).ports c.requires.stepped
