use Rattle.reo_net_laws.proofs.Mixing.{mix}
use Rattle.reo_net_laws.proofs.colourings.mix_is_colouring.Goals as goal

pub returns : goal.returns
returns c = mix
