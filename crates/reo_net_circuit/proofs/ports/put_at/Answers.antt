use Rattle.reo_net_circuit.proofs.PortLemmas.{change_is}
use Rattle.reo_net_circuit.proofs.ports.put_at.Goals as goal

pub returns-clause-list : goal.returns-clause-list
returns-clause-list g c = rw c.replace.ensures.after (change_is (λ _. c.args.primitive) c.args.primitives.now c.args.index c.index-primitives-index.result c.requires)
