use Rattle.reo_net_laws.proofs.FirstInside.{first_by_parts}
use Rattle.reo_net_laws.proofs.first.first_by_parts.Goals as goal

pub returns : goal.returns
returns c = first_by_parts
