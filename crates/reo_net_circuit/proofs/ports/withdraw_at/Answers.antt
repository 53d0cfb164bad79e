use Rattle.reo_net_circuit.proofs.PortLemmas.{change_is}
use Rattle.reo_net_circuit.proofs.ports.withdraw_at.Goals as goal

pub returns : goal.returns
returns g c = rw c.withdraw.ensures (change_is g.P.Ported.withdrawn c.args.primitives.now c.args.index c.index-primitives-index.result c.requires.index)
