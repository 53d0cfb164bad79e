use Rattle.reo_net_laws.proofs.FirstInside.{first_inside}
use Rattle.reo_net_laws.proofs.first.first_inside.Goals as goal

pub returns : goal.returns
returns c = first_inside
