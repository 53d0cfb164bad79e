use Rattle.reo_net_laws.proofs.Joined.{ends_joined}
use Rattle.reo_net_laws.proofs.ends.ends_are_joined.Goals as goal

pub returns : goal.returns
returns c = ends_joined
