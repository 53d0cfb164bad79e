use Rattle.reo_net_circuit.proofs.OfferLemmas.{offers_after, shape_after}
use Rattle.reo_net_circuit.proofs.circuit.Circuit.known_offers.Goals as goal

pub returns-clause-offers : goal.returns-clause-offers
returns-clause-offers g c = offers_after g.P.Primitive.behaviour g.P.Primitive.settled g.P.Ported.port_state g.met.P.Ported.settled_port g.met.P.Ported.no_port c.args.self.now c.known.ensures.wired c.known_ports.ensures

pub returns-clause-shape : goal.returns-clause-shape
returns-clause-shape g c = shape_after g.P.Primitive.behaviour g.P.Primitive.settled g.P.Ported.port_state g.met.P.Ported.settled_port g.met.P.Primitive.settled_shape c.args.self.now
