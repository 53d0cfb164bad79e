use Rattle.reo_net_laws.proofs.JamRows.{jam_colouring}
use Rattle.reo_net_laws.proofs.colourings.jam_is_colouring.Goals as goal

pub returns : goal.returns
returns c = jam_colouring
