use Rattle.reo_trace.proofs.cells.Laid.{cells_same}
use Rattle.reo_trace.proofs.cells.laws.cells_stay.Goals as goal

pub returns : goal.returns
returns c = cells_same
