use Rattle.reo_net_laws.proofs.Jams.{jams_whole}
use Rattle.reo_net_laws.proofs.colourings.jams_whole.Goals as goal

pub returns : goal.returns
returns c = jams_whole
