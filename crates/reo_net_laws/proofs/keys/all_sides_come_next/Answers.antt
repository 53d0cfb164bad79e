use Rattle.reo_net_laws.proofs.Leading.{all_next}
use Rattle.reo_net_laws.proofs.keys.all_sides_come_next.Goals as goal

pub returns : goal.returns
returns c = all_next
