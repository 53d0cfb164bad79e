use Rattle.std.proofs.Common.{◌≡◌, ◌∙◌, ◌++◌, ℕ, ◌+◌, ◌-◌, ◌≤◌, min, List, ap, sym, arith}
use Rattle.std.proofs.lemmas.List.{length-map}
use Rattle.reo_net_base.specs.declared.colouring.Move.{Move}
use Rattle.reo_net_base.specs.Net.{Net, net_of}
use Rattle.reo_net_base.specs.Moves.{moves_at, moves_of}
use Rattle.reo_flows.proofs.stepping.NextLemmas.{none_flows}
use Rattle.reo_round.proofs.PortMoves.{flat_more, moves_over}
use Rattle.reo_round.proofs.moving.moves_of_marked.Goals as goal

pub loop-port-init : goal.loop-port-init
loop-port-init g c = λ rows is those.
    let net : Net = net_of g.P.Primitive.behaviour c.args.circuit.now in
    let next : ℕ = c.next_set-port.result in
    let last : ℕ = min next c.args.circuit.now.ports in
    moves_over net rows c.args.items.now _ last 0 last (omega arith)
    (λ k low high. none_flows net rows c.args.marks.now those 0 next c.next_set-port.ensures k low (omega (arith, high)))
    (λ k low high. omega (arith, (c.known_ports.ensures.port k (omega (arith, high))).one_end)) c.clear.ensures

pub loop-port-smaller : goal.loop-port-smaller
loop-port-smaller g c =
    let within = c.known_ports.ensures.within in
    let bs = length-map c.args.circuit.now.primitives g.P.Primitive.behaviour in
    omega (arith, within, bs, c.requires.one_each, c.next_set-port-in-loop-port.ensures.from_on)

pub loop-port-preserved : goal.loop-port-preserved
loop-port-preserved g c = λ rows is those.
    let net : Net = net_of g.P.Primitive.behaviour c.args.circuit.now in
    let port : ℕ = c.loop-port.port in
    let next : ℕ = c.next_set-port-in-loop-port.result in
    let last : ℕ = min next c.args.circuit.now.ports in
    let within = c.known_ports.ensures.within in
    let bs = length-map c.args.circuit.now.primitives g.P.Primitive.behaviour in
    let on : port + 1 ≤ last = omega (arith, within, bs, c.requires.one_each, c.next_set-port-in-loop-port.ensures.from_on) in
    let here : min port c.args.circuit.now.ports ≡ port = omega arith in
    let so = c.loop-port.invariant rows is those ∙ ap (λ (k : ℕ). moves_of net k rows c.args.items.now) here in
    let more = c.in_ok-add_move.ensures rows is ∙ ap (λ (xs : List Move). xs ++ moves_at net rows c.args.items.now port) so ∙ sym (flat_more (moves_at net rows c.args.items.now) port) in
    moves_over net rows c.args.items.now _ (last - (port + 1)) (port + 1) last (omega (arith, on))
    (λ k low high. none_flows net rows c.args.marks.now those (port + 1) next c.next_set-port-in-loop-port.ensures k low (omega (arith, high)))
    (λ k low high. omega (arith, (c.known_ports.ensures.port k (omega (arith, high))).one_end)) more

pub returns : goal.returns
returns g c = λ rows is those.
    let net : Net = net_of g.P.Primitive.behaviour c.args.circuit.now in
    let all : min c.loop-port.port c.args.circuit.now.ports ≡ c.args.circuit.now.ports = omega arith in
    c.loop-port.invariant rows is those ∙ ap (λ (k : ℕ). moves_of net k rows c.args.items.now) all
