use Rattle.std.proofs.Common.{◌<◌, length, refl, arith}
use Rattle.std.specs.Prelude.{Some}
use Rattle.std.specs.List.{position_or_len}
use Rattle.reo_net_base.specs.Net.{Net, end_of, is_at, net_of}
use Rattle.reo_round.proofs.PortMoves.{moves_here}
use Rattle.reo_round.proofs.moving.add_move.Goals as goal

pub returns-in_ok-item-in-Some : goal.returns-in_ok-item-in-Some
returns-in_ok-item-in-Some g c = λ rows is.
    let net : Net = net_of g.P.Primitive.behaviour c.args.circuit.now in
    let joint = c.port_joint-joint.ensures.joint in
    let below : position_or_len (is_at (end_of c.args.port 0)) net.joints < length net.joints = omega (arith, joint, c.port_joint-joint.ensures.in_range) in
    let one = (c.known_ports.ensures.port c.args.port c.requires.port).one_end in
    let within = c.known_ports.ensures.within in
    let here = moves_here net rows c.args.items.now c.known.ensures.wired is c.args.port (omega (arith, within, c.requires.port), omega (arith, one)) below (Some c.in_ok-item-in-Some.item) (rw (← joint, ← c.item_of.ensures, c.in-Some.is, c.in_ok-item-in-Some.ensures) refl) in
    rw here c.push.ensures.ok
