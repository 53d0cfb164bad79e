-- No fault was found, so what holds of each circuit holds.
use Rattle.reo_net_base.specs.Net.{Net, net_of, from_sides, to_sides}
use Rattle.reo_net_circuit.specs.Parts.{wiring_of}
use Rattle.reo_net_circuit.specs.Circuit.{IsCircuit}
use Rattle.reo_net_circuit.proofs.WireLemmas.{no_fault}
use Rattle.reo_net_circuit.proofs.circuit.Circuit.new.Goals as goal

pub returns-in-Ok-clause-exact : goal.returns-in-Ok-clause-exact
returns-in-Ok-clause-exact g c =
    let net : Net = net_of g.P.Primitive.behaviour (wiring_of c.args.primitives c.args.ports c.args.joints) in
    let is : IsCircuit g.P.Primitive.behaviour (wiring_of c.args.primitives c.args.ports c.args.joints) c.in-Ok.tables = rw (c.as_slice.ensures, c.as_slice-2.ensures) at c.in-Ok.ensures in
    no_fault net is.wired (c.order_has_no_cycle.ensures (from_sides net) (to_sides net) c.in-Ok.tables.order is.ordered)

pub invariant_of-result : goal.invariant_of-result
invariant_of-result g c = rw c.into_vec.ensures (rw (c.as_slice.ensures, c.as_slice-2.ensures) at c.in-Ok.ensures)
