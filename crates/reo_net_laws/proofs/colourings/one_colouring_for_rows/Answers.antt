use Rattle.reo_net_laws.proofs.OneItems.{one_colouring}
use Rattle.reo_net_laws.proofs.colourings.one_colouring_for_rows.Goals as goal

pub returns : goal.returns
returns c = one_colouring
