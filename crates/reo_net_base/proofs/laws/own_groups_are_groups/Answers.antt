use Rattle.reo_net_base.proofs.OwnGroups.{own_groups}
use Rattle.reo_net_base.proofs.laws.own_groups_are_groups.Goals as goal

pub returns : goal.returns
returns c = own_groups
