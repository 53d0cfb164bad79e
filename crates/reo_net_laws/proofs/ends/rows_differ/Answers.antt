use Rattle.reo_net_laws.proofs.Told.{rows_told}
use Rattle.reo_net_laws.proofs.ends.rows_differ.Goals as goal

pub returns : goal.returns
returns c = rows_told
