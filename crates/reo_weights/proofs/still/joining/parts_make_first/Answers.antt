use Rattle.reo_weights.proofs.still.Together.{parts_make_first}
use Rattle.reo_weights.proofs.still.joining.parts_make_first.Goals as goal

pub returns : goal.returns
returns c = parts_make_first
