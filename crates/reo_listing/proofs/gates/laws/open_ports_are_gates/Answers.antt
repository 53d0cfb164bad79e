use Rattle.reo_listing.proofs.gates.PortLemmas.{open_held}
use Rattle.reo_listing.proofs.gates.laws.open_ports_are_gates.Goals as goal

pub returns : goal.returns
returns c = open_held
