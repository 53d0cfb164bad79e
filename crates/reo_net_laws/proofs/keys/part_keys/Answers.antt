use Rattle.reo_net_laws.proofs.Sublists.{part_keys}
use Rattle.reo_net_laws.proofs.keys.part_keys.Goals as goal

pub returns : goal.returns
returns c = part_keys
