use Rattle.reo_kinds_laws.proofs.Keeping.{buffers_kept}
use Rattle.reo_kinds_laws.proofs.laws.buffers_keep_order.Goals as goal

pub returns : goal.returns
returns c = buffers_kept
