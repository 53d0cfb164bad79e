use Rattle.reo_net_laws.proofs.state_laws.Same.{same_rows}
use Rattle.reo_net_laws.proofs.state_laws.states.same_tables_same_rows.Goals as goal

pub returns : goal.returns
returns c = same_rows
