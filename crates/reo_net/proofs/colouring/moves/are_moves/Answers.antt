use Rattle.std.proofs.Common.{arith}
use Rattle.reo_net_base.specs.declared.colouring.Move.{Move}
use Rattle.reo_net_base.specs.Net.{Net, net_of}
use Rattle.reo_net.proofs.colouring.MoveLemmas.{stands, with_move, without_move}
use Rattle.reo_net.proofs.colouring.moves.are_moves.Goals.{in-Some+else-not-stands_at, in_default}
use Rattle.reo_net.proofs.colouring.moves.are_moves.Goals as goal

pub returns-then-not-stands_at : goal.returns-then-not-stands_at
returns-then-not-stands_at g c = (
  λ h. cc,
  λ all.
      let net : Net = net_of g.P.Primitive.behaviour c.args.circuit.now in
      let move : Move = record { port = c.loop-port.port; item = c.in-Some.item.now } in
      let found = stands net c.args.rows.now c.args.items.now c.args.moves.now c.loop-port.next c.loop-port.port c.loop-port.invariant.0 c.loop-port.invariant.1 c.args.circuit.now.ports move (omega arith) c.in-Some.ensures all in
      rw c.if-not-stands_at.true at (c.stands_at.ensures.back found.0 found.1),
)

pub loop-port-preserved : goal.loop-port-preserved
loop-port-preserved g c =
    let net : Net = net_of g.P.Primitive.behaviour c.args.circuit.now in
    elim c.match-flowing.branch [
      | in-Some+else-not-stands_at w ↦
          let move : Move = record { port = c.loop-port.port; item = w.in-Some.item.now } in
          rw w.next-is (with_move net c.args.rows.now c.args.items.now c.args.moves.now c.loop-port.next c.loop-port.port c.loop-port.invariant.0 c.loop-port.invariant.1 move w.in-Some.ensures
          (w.stands_at.ensures.in_range w.if-not-stands_at.false) (w.stands_at.ensures.move_ w.if-not-stands_at.false))
      | in_default w ↦ rw w.next-is (without_move net c.args.rows.now c.args.items.now c.args.moves.now c.loop-port.next c.loop-port.port c.loop-port.invariant.0 c.loop-port.invariant.1 w.in_default.ensures)
    ]
