use Rattle.reo_net_laws.proofs.KnotLabels.{own_members}
use Rattle.reo_knots.proofs.labels.apart.Goals as goal

pub returns-clause-members : goal.returns-clause-members
returns-clause-members c = own_members c.in_ok-labels.labels.items c.in_ok-members.members.items c.args.count c.in_ok-labels.ensures c.in_ok-members.ensures
