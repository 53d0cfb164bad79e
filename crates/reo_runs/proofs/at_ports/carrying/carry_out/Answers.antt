use Rattle.std.proofs.Common.{◌∙◌, ℕ, map, ap, sym, subst}
use Rattle.reo_net_base.specs.Net.{Wiring, net_of}
use Rattle.reo_runs.specs.at_ports.Between.{AreStepped}
use Rattle.reo_runs.proofs.at_ports.AfterRound.{stepped_at, moved_at, gone_as_said}
use Rattle.reo_runs.proofs.at_ports.carrying.carry_out.Goals as goal

pub advance_all-requires-clause-stepped : goal.advance_all-requires-clause-stepped
advance_all-requires-clause-stepped g c =
    let w : Wiring g.row.P.Denot = (g.S.Stage.circuit c.args.stage.now) in
    subst (λ (n : ℕ). AreStepped c.args.ports.now.list n c.args.players.now (map g.P.Ported.port_state (g.S.Stage.circuit c.make-moves.new.self).primitives)) (sym (ap (λ (v : Wiring g.row.P.Denot). v.ports) c.make-moves.ensures.circuit))
    (stepped_at (net_of g.P.Primitive.behaviour w) c.args.plan.colouring.rows c.args.ports.now.list w.ports c.args.players.now _ _ c.requires.started c.make-moves.ensures.offers)

pub advance_all-requires-clause-moved : goal.advance_all-requires-clause-moved
advance_all-requires-clause-moved g c =
    let w : Wiring g.row.P.Denot = (g.S.Stage.circuit c.args.stage.now) in
    moved_at c.known_moves.ensures.flows (net_of g.P.Primitive.behaviour w) c.args.plan.colouring.rows c.args.plan.colouring.items c.args.ports.now.list w.ports c.args.players.now _ _
    c.known_moves.ensures.wired c.known_moves.ensures.ports c.requires.suits.colouring c.requires.started c.make-moves.ensures.offers _ (c.as_slice.ensures ∙ c.make-moves.ensures.moves ∙ c.requires.suits.shows.moves)

pub returns-clause-players : goal.returns-clause-players
returns-clause-players g c =
    let w : Wiring g.row.P.Denot = (g.S.Stage.circuit c.args.stage.now) in
    c.advance_all.ensures.players
    ∙ gone_as_said (net_of g.P.Primitive.behaviour w) c.args.plan.colouring.rows c.args.ports.now.list w.ports c.args.players.now _ _ c.requires.started c.make-moves.ensures.offers
