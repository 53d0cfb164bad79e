use Rattle.std.proofs.Common.{arith}
use Rattle.reo_mark_search.proofs.spots.keepers_of.Goals as goal

pub side_of-requires : goal.side_of-requires
side_of-requires g c = rw (c.joint-joint.ensures c.joint-joint.result) at (c.known.ensures.wired.givers c.loop-index.index c.joint-joint.result (omega arith))

pub side_of-requires-in-loop-index : goal.side_of-requires-in-loop-index
side_of-requires-in-loop-index g c = rw (c.joint-joint.ensures c.joint-joint.result) at (c.known.ensures.wired.takers c.loop-index.index c.joint-joint.result (omega arith))
