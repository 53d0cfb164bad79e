use Rattle.reo_weights.proofs.still.Quiet.{still_no_items}
use Rattle.reo_weights.proofs.still.still.still_parts_have_no_items.Goals as goal

pub returns : goal.returns
returns c = still_no_items
