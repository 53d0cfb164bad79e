use Rattle.reo_net_laws.proofs.Joined.{source_taken}
use Rattle.reo_net_laws.proofs.ends.source_is_taken.Goals as goal

pub returns : goal.returns
returns c = source_taken
