use Rattle.std.proofs.Common.{length}
use Rattle.reo_net_base.specs.order.Queue.{IsQueue}
use Rattle.reo_net_base.proofs.order.queue.clear.Given as goal

abbrev pub invariant-loop-arrow : goal.invariant-loop-arrow
invariant-loop-arrow l = IsQueue (length l.fn.queue.placed.items) l.queue.order.items l.queue.placed.items

abbrev pub decreases-loop-arrow : goal.decreases-loop-arrow
decreases-loop-arrow l = length l.queue.order.items
