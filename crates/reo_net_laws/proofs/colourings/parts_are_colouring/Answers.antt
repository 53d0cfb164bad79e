use Rattle.reo_net_laws.proofs.Sets.{parts_colouring}
use Rattle.reo_net_laws.proofs.colourings.parts_are_colouring.Goals as goal

pub returns : goal.returns
returns c = parts_colouring
