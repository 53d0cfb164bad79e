use Rattle.reo_open.proofs.UnitLemmas.{unit_buffer_is}
use Rattle.reo_open.proofs.kinds.unit_buffer.Goals as goal

pub returns : goal.returns
returns c =
    unit_buffer_is c.args.buffer.now c.with.result c.in_ok-items.items c.len.result c.size.result c.in_ok-items.ensures c.len.ensures c.size.ensures.size
    c.with.ensures
