-- Joints that stand in an order make no cycle.
use Rattle.std.proofs.Common.{◌<◌, ◌^◌, arith}
use Rattle.std.proofs.lemmas.List.{length-map}
use Rattle.reo_net_base.specs.Net.{Net, net_of, from_sides, to_sides}
use Rattle.reo_net_circuit.specs.Parts.{wiring_of}
use Rattle.reo_net_circuit.proofs.circuit.Circuit.known.Goals as goal

pub returns-clause-no_cycle : goal.returns-clause-no_cycle
returns-clause-no_cycle g c =
    let net : Net = net_of g.P.Primitive.behaviour (wiring_of c.self.inside.primitives.items c.self.inside.ports c.self.inside.joints) in
    rw (← c.self.view_is) (c.order_has_no_cycle.ensures (from_sides net) (to_sides net) c.self.inside.tables.order c.self.invariant.ordered)

pub returns-clause-few_ports : goal.returns-clause-few_ports
returns-clause-few_ports g c =
    let items = c.self.inside.primitives.items in
    let few : c.self.inside.ports < 2 ^ 31 = omega (arith, c.self.invariant.few_primitives, c.self.invariant.are_ports.within, length-map items g.P.Primitive.behaviour) in
    rw (← c.self.view_is) few
