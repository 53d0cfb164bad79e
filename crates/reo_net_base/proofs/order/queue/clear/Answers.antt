use Rattle.std.proofs.Common.{length}
use Rattle.reo_net_base.proofs.order.QueueLemmas.{queue_pop}
use Rattle.reo_net_base.proofs.order.queue.clear.Goals as goal

pub loop-arrow-preserved : goal.loop-arrow-preserved
loop-arrow-preserved c =
    queue_pop (length c.args.queue.now.placed.items) c.pop.new.self.items c.loop-arrow.queue.placed.items c.in-Some.arrow (rw c.in-Some.ensures.items at c.loop-arrow.invariant)
