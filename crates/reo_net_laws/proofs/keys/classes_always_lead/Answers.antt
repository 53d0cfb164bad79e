use Rattle.reo_net_laws.proofs.Places.{classes_lead}
use Rattle.reo_net_laws.proofs.keys.classes_always_lead.Goals as goal

pub returns : goal.returns
returns c = classes_lead
