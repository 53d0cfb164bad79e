use Rattle.std.proofs.Common.{◌∙◌, ℕ, map, ap, sym, subst}
use Rattle.reo_net_base.specs.Net.{Wiring, net_of}
use Rattle.reo_trace.specs.declared.line.RoundLine.{RoundLine}
use Rattle.reo_runs.specs.at_ports.Between.{AreStepped}
use Rattle.reo_runs.proofs.at_ports.AfterRound.{stepped_at, moved_at, gone_as_said}
use Rattle.reo_runner.proofs.at_ports.carrying.carry_on.Goals as goal

pub advance_all-requires-clause-stepped : goal.advance_all-requires-clause-stepped
advance_all-requires-clause-stepped g c =
    let w : Wiring g.row.P.Denot = c.args.engine.now.circuit in
    subst (λ (n : ℕ). AreStepped c.args.ports.now.list n c.args.players.now (map g.P.Ported.port_state c.finish_round-round.new.self.circuit.primitives)) (sym (ap (λ (v : Wiring g.row.P.Denot). v.ports) c.finish_round-round.ensures.circuit))
    (stepped_at (net_of g.P.Primitive.behaviour w) c.args.made_round.colouring.rows c.args.ports.now.list w.ports c.args.players.now _ _ c.requires.started c.finish_round-round.ensures.offers)

pub advance_all-requires-clause-moved : goal.advance_all-requires-clause-moved
advance_all-requires-clause-moved g c =
    let w : Wiring g.row.P.Denot = c.args.engine.now.circuit in
    moved_at c.known_moves.ensures.flows (net_of g.P.Primitive.behaviour w) c.args.made_round.colouring.rows c.args.made_round.colouring.items c.args.ports.now.list w.ports c.args.players.now _ _
    c.known_moves.ensures.wired c.known_moves.ensures.ports c.requires.is_made.first.colouring c.requires.started c.finish_round-round.ensures.offers _ (c.as_slice.ensures ∙ ap (λ (l : RoundLine). l.moves) (c.finish_round-round.ensures.line ∙ c.requires.is_made.line))

pub returns-clause-players : goal.returns-clause-players
returns-clause-players g c =
    let w : Wiring g.row.P.Denot = c.args.engine.now.circuit in
    c.advance_all.ensures.players
    ∙ gone_as_said (net_of g.P.Primitive.behaviour w) c.args.made_round.colouring.rows c.args.ports.now.list w.ports c.args.players.now _ _ c.requires.started c.finish_round-round.ensures.offers
