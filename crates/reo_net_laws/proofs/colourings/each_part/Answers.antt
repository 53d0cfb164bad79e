use Rattle.reo_net_laws.proofs.Sets.{each_part}
use Rattle.reo_net_laws.proofs.colourings.each_part.Goals as goal

pub returns : goal.returns
returns c = each_part
