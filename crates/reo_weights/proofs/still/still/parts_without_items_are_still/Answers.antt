use Rattle.reo_weights.proofs.still.Quiet.{no_items_still}
use Rattle.reo_weights.proofs.still.still.parts_without_items_are_still.Goals as goal

pub returns : goal.returns
returns c = no_items_still
