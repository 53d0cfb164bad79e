-- All components have made their offers.
use Rattle.std.proofs.Common.{rules, ◌≡◌, ◌≤◌, ◌+◌, ◌∙◌, ℕ, List, length, map, refl, sym, ap, arith}
use Rattle.reo_net_base.specs.Net.{Wiring}
use Rattle.reo_net_base.specs.PortState.{PortState}
use Rattle.reo_rounds.specs.Rules.{Rules, rules_of}
use Rattle.reo_players.specs.Players.{player_of}
use Rattle.reo_players.specs.Offers.{offer_for}
use Rattle.reo_runs.specs.at_ports.Pending.{pending_in}
use Rattle.reo_runs.proofs.at_ports.Ready.{ready_same}
use Rattle.reo_runs.proofs.at_ports.OffersMade.{seen_offered, pass_over, pass_to, begun, started, pending_is}
use Rattle.reo_runs.proofs.at_ports.offering.offer_all.Goals as goal
use Rattle.reo_runs.proofs.at_ports.offering.offer_all.Goals.{then-fresh+in_ok-offer_fresh, else-fresh}

pub loop-component-init : goal.loop-component-init
loop-component-init g c =
    let states : List PortState = map g.P.Ported.port_state (g.S.Stage.circuit c.args.stage.now).primitives in
    let ports = c.args.ports.now.list in
    let count : ℕ = (g.S.Stage.circuit c.args.stage.now).ports in
    record {
      in_range = c.next_awake-component.ensures.in_range;
      offers = pass_to ports count c.args.players.now states 0 c.next_awake-component.result (omega arith) c.next_awake-component.ensures (begun ports count c.args.players.now states c.requires);
      circuit = λ w but. but;
      rounds = refl;
    }

pub loop-component-preserved : goal.loop-component-preserved
loop-component-preserved g c =
    let before = (g.S.Stage.circuit c.loop-component.stage) in
    let ports = c.args.ports.now.list in
    let within : c.loop-component.component + 1 ≤ length c.args.players.now = omega arith in
    let next = c.next_awake-component-in-loop-component in
    elim c.if-fresh.branch [
      | then-fresh+in_ok-offer_fresh w ↦
          let rounds : (g.S.Stage.rounds w.offer_fresh.new.stage) ≡ (g.S.Stage.rounds c.args.stage.now) = search rules in
          rw w.stage-is record {
            in_range = next.ensures.in_range;
            offers = pass_to ports (g.S.Stage.circuit w.offer_fresh.new.stage).ports c.args.players.now (map g.P.Ported.port_state (g.S.Stage.circuit w.offer_fresh.new.stage).primitives) (c.loop-component.component + 1) next.result within next.ensures
                w.in_ok-offer_fresh.ensures.offers;
            circuit = λ v but. w.in_ok-offer_fresh.ensures.circuit v (c.loop-component.invariant.circuit v but);
            rounds = rounds;
          }
      | else-fresh w ↦
          let seen = seen_offered (player_of c.args.players.now c.loop-component.component) (sym c.fresh.ensures ∙ w.if-fresh.false) in
          let states : List PortState = map g.P.Ported.port_state before.primitives in
          rw w.stage-is record {
            in_range = next.ensures.in_range;
            offers = pass_to ports before.ports c.args.players.now states (c.loop-component.component + 1) next.result within next.ensures
                (pass_over ports before.ports c.loop-component.component c.args.players.now states seen c.loop-component.invariant.offers);
            circuit = c.loop-component.invariant.circuit;
            rounds = c.loop-component.invariant.rounds;
          }
    ]

pub returns-clause-started : goal.returns-clause-started
returns-clause-started g c =
    let states : List PortState = map g.P.Ported.port_state (g.S.Stage.circuit c.loop-component.stage).primitives in
    started c.args.ports.now.list (g.S.Stage.circuit c.loop-component.stage).ports c.loop-component.component c.args.players.now states (omega arith) c.loop-component.invariant.offers

pub returns-clause-ready : goal.returns-clause-ready
returns-clause-ready g c = λ w but.
    let states : List PortState = map g.P.Ported.port_state (g.S.Stage.circuit c.loop-component.stage).primitives in
    let r : Rules g.row.P.Denot = rules_of g.P.Primitive.behaviour g.P.Primitive.settled g.P.Ported.port_state g.P.Ported.placed g.P.Ported.withdrawn in
    let is = c.loop-component.invariant.circuit w but in
    let count : (g.S.Stage.circuit c.loop-component.stage).ports ≡ w.ports = ap (λ (v : Wiring g.row.P.Denot). v.ports) is in
    is ∙ ready_same r (pending_in r (g.S.Stage.circuit c.loop-component.stage).primitives) (offer_for c.args.players.now) w
    (λ i lt. pending_is c.offers_agree.ensures c.args.ports.now.list (g.S.Stage.circuit c.loop-component.stage).ports c.args.players.now states (returns-clause-started g c) i (omega arith))
