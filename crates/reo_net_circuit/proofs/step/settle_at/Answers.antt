use Rattle.reo_net_circuit.proofs.PortLemmas.{change_is}
use Rattle.reo_net_circuit.proofs.step.settle_at.Goals as goal

pub returns : goal.returns
returns g c = rw c.settle.ensures (change_is (λ q. g.P.Primitive.settled q c.args.rows c.args.taken) c.args.primitives.now c.args.index c.index-primitives-index.result c.requires)
