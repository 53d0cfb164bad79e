-- No fault was found, so what holds of each circuit holds.
use Rattle.reo_net_base.specs.Net.{Net, net_of, from_sides, to_sides}
use Rattle.reo_net_circuit.specs.Parts.{wiring_of}
use Rattle.reo_net_circuit.proofs.ReshapeLemmas.{lawful_at}
use Rattle.reo_net_circuit.proofs.WireLemmas.{wired_is}
use Rattle.reo_net_circuit.proofs.checked.tables_of.Goals as goal

pub returns : goal.returns
returns g c =
    let net : Net = net_of g.P.Primitive.behaviour (wiring_of c.args.primitives.now c.args.ports c.args.joints.now) in
    let ends = c.in_ok-check_ends.ensures in
    let order = c.in_ok-order.ensures in
    let none = c.order_has_no_cycle.ensures (from_sides net) (to_sides net) c.in_ok-order.order order in
    record {
      few_primitives = c.requires.few_primitives;
      few_joints = c.requires.few_joints;
      wired = wired_is net c.requires.joints ends.0 ends.1 none (lawful_at g.P.Primitive.behaviour g.met.P.Primitive.lawful c.args.primitives.now);
      are_ports = c.requires.ports;
      ordered = order;
      laid_out = c.in_ok-layout.ensures;
      mouths = c.in_ok-mouths.ensures;
      port_joints = c.in_ok-port_joints.ensures;
    }
