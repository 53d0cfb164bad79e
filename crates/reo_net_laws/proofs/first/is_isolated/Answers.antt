use Rattle.reo_net_laws.proofs.Isolation.{isolated}
use Rattle.reo_net_laws.proofs.first.is_isolated.Goals as goal

pub returns : goal.returns
returns c = isolated
