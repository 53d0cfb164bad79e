use Rattle.reo_net_circuit.proofs.PortLemmas.{change_is}
use Rattle.reo_net_circuit.proofs.ports.place_at.Goals as goal

pub returns : goal.returns
returns g c = rw c.place.ensures (change_is (λ q. g.P.Ported.placed q c.args.offer) c.args.primitives.now c.args.index c.index-primitives-index.result c.requires.index)
