use Rattle.reo_net_laws.proofs.Told.{classes_told}
use Rattle.reo_net_laws.proofs.ends.classes_differ.Goals as goal

pub returns : goal.returns
returns c = classes_told
