use Rattle.reo_net_laws.proofs.Isolation.{firsts_agree}
use Rattle.reo_net_laws.proofs.first.firsts_agree.Goals as goal

pub returns : goal.returns
returns c = firsts_agree
