-- A component makes its offer.
use Rattle.std.proofs.Common.{◌+◌, List, map, sym, ap, subst, arith}
use Rattle.reo_net_base.specs.Net.{Wiring}
use Rattle.reo_net_base.specs.PortState.{PortState}
use Rattle.reo_rounds.specs.Rules.{Rules, rules_of}
use Rattle.reo_runs.specs.at_ports.Parts.{AreOffering}
use Rattle.reo_runs.proofs.at_ports.AtPorts.{in_range, is_taken}
use Rattle.reo_runs.proofs.at_ports.Kept.{placed_but}
use Rattle.reo_runs.proofs.at_ports.OffersMade.{is_free, placed_more}
use Rattle.reo_runs.proofs.at_ports.offering.place_fresh.Goals as goal

pub place-requires : goal.place-requires
place-requires g c =
    let states : List PortState = map g.P.Ported.port_state (g.S.Stage.circuit c.args.stage.now).primitives in
    let fresh = c.requires.fresh in
    let ports = c.args.ports.now.list in
    let count = (g.S.Stage.circuit c.args.stage.now).ports in
    is_taken ports count c.args.players.now states c.args.component c.args.port c.args.offer c.requires.before.at_ports c.requires.there fresh.offers
    (is_free ports count c.args.component c.args.players.now states c.requires.before c.requires.there fresh.unseen c.args.port c.args.offer fresh.offers)

pub returns-clause-offers : goal.returns-clause-offers
returns-clause-offers g c =
    let states : List PortState = map g.P.Ported.port_state (g.S.Stage.circuit c.args.stage.now).primitives in
    let new : List PortState = map g.P.Ported.port_state (g.S.Stage.circuit c.place.new.self).primitives in
    let fresh = c.requires.fresh in
    let ports = c.args.ports.now.list in
    let count = (g.S.Stage.circuit c.args.stage.now).ports in
    subst (λ k. AreOffering ports k (c.args.component + 1) c.args.players.now new) (sym (ap (λ (w : Wiring g.row.P.Denot). w.ports) c.place.ensures.circuit))
    (placed_more ports count c.args.component c.args.players.now states c.requires.before c.requires.there fresh.unseen c.args.port c.args.offer fresh.offers new c.place.ensures.offers)

pub returns-clause-circuit : goal.returns-clause-circuit
returns-clause-circuit g c = λ w but.
    let states : List PortState = map g.P.Ported.port_state (g.S.Stage.circuit c.args.stage.now).primitives in
    let r : Rules g.row.P.Denot = rules_of g.P.Primitive.behaviour g.P.Primitive.settled g.P.Ported.port_state g.P.Ported.placed g.P.Ported.withdrawn in
    let fresh = c.requires.fresh in
    let ports = c.args.ports.now.list in
    let count = (g.S.Stage.circuit c.args.stage.now).ports in
    let lt = in_range ports count c.args.players.now states c.args.component c.args.port c.args.offer c.requires.before.at_ports c.requires.there fresh.offers in
    placed_but r w (g.S.Stage.circuit c.args.stage.now) (g.S.Stage.circuit c.place.new.self) c.args.port c.args.offer (omega (arith, c.requires.before.at_ports.count_is)) but c.place.ensures.circuit
    (is_free ports count c.args.component c.args.players.now states c.requires.before c.requires.there fresh.unseen c.args.port c.args.offer fresh.offers) c.place.ensures.offers
