-- The one end of a port is joined.
use Rattle.std.proofs.Common.{◌≡◌, ◌∙◌, ◌<◌, ℕ, length, ap, arith}
use Rattle.std.proofs.lemmas.List.{get_or_default}
use Rattle.std.specs.List.{position_or_len}
use Rattle.reo_net_base.specs.Net.{Net, Wiring, net_of, end_of, is_at}
use Rattle.reo_net_circuit.proofs.TableLemmas.{joined_in}
use Rattle.reo_net_circuit.proofs.circuit.Circuit.port_joint.Goals as goal

pub returns-clause-in_range : goal.returns-clause-in_range
returns-clause-in_range g c =
    let net : Net = net_of g.P.Primitive.behaviour c.args.self.now in
    let port : ℕ = c.args.port in
    let one_end = (c.known_ports.ensures.port port c.requires).one_end in
    let joined = c.known.ensures.wired.each_end port 0 (omega arith) (omega (arith, one_end)) in
    let ports = ap (λ (w : Wiring _). w.ports) c.self.view_is in
    let joints = ap (λ (w : Wiring _). w.joints) c.self.view_is in
    let within : port < length c.self.inside.tables.port_joints = omega (arith, c.self.invariant.port_joints.one_each, c.self.invariant.are_ports.within, ports) in
    let joint : c.at.result.now ≡ position_or_len (is_at (end_of port 0)) c.self.inside.joints =
    c.at.ensures ∙ get_or_default c.self.inside.tables.port_joints port c.at.result.now 0 within ∙ c.self.invariant.port_joints.joint port (omega (arith, c.self.invariant.port_joints.one_each)) in
    rw (joint, joints) (joined_in net.joints (end_of port 0) joined)
